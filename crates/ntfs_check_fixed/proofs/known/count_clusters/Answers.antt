use Rattle.std.proofs.Common.{◌+◌, arith}
use Rattle.ntfs_check_fixed.proofs.FactLemmas.{count-end, count-next}
use Rattle.ntfs_check_fixed.proofs.known.count_clusters.Goals as goal

pub runs-preserved : goal.runs-preserved
runs-preserved c =
    let at = c.runs.invariant in
    (at.0 + c.clusters_of.result, omega (arith, at.1, c.saturating_add-count.ensures), count-next c.args.runs.now c.runs.run-index at.0 c.clusters_of.result _ c.runs-test.true c.clusters_of.ensures at.2)

pub returns : goal.returns
returns c = λ n few are place. count-end c.args.runs.now c.runs.run-index c.runs.invariant.0 c.runs.count n c.runs-test.false c.runs.invariant.1 c.runs.invariant.2 few are place
