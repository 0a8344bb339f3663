use Rattle.std.proofs.Common.{◌^◌, arith}
use Rattle.ntfs_runs.proofs.CellsLemmas.{length-vcns}
use Rattle.ntfs_runs.proofs.CellsLemmas.{count-sum, count-more, count-all}
use Rattle.ntfs_runs.proofs.cells.count_of.Goals as goal

pub overflow_add-count : goal.overflow_add-count
overflow_add-count c = omega (arith, count-sum c.args.runs.now c.runs.run-index c.runs.count c.runs-test.true c.requires c.runs.invariant)

pub runs-preserved : goal.runs-preserved
runs-preserved c = count-more c.args.runs.now c.runs.run-index c.runs.count c.runs-test.true c.runs.invariant

pub returns-clause-count : goal.returns-clause-count
returns-clause-count c = count-all c.args.runs.now c.runs.run-index c.runs.count c.runs-test.false c.runs.invariant

pub returns-clause-most : goal.returns-clause-most
returns-clause-most c =
    let all = count-all c.args.runs.now c.runs.run-index c.runs.count c.runs-test.false c.runs.invariant in
    omega (arith, all, length-vcns (2 ^ 48) c.args.runs.now c.requires)
