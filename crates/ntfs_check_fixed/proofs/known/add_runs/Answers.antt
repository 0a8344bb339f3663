use Rattle.std.proofs.Common.{◌∙◌, ap, arith}
use Rattle.ntfs_bitmap.specs.ClusterSet.{bound_of, has}
use Rattle.ntfs_check_fixed.proofs.FactLemmas.{empty-among, hole-among, no-among, run-within, some-among}
use Rattle.ntfs_check_fixed.proofs.PlaceLemmas.{cells-behind}
use Rattle.ntfs_check_fixed.proofs.known.add_runs.Goals as goal
use Rattle.ntfs_check_fixed.proofs.known.add_runs.Goals.{in-None, in-Some+then-run-gt0+in_default, in-Some+else-run-gt0}

pub add_run-requires-clause-within : goal.add_run-requires-clause-within
add_run-requires-clause-within c =
    omega (arith, run-within c.args.runs.now c.runs.run-index c.in-Some.first (bound_of c.args.set.now) c.runs-test.true c.runs.invariant.cells c.in-Some.is c.if-run-gt0.true, c.runs.invariant.bound)

pub add_run-requires-clause-few : goal.add_run-requires-clause-few
add_run-requires-clause-few c = omega (arith, c.requires.few, c.runs.invariant.bound)

pub runs-preserved : goal.runs-preserved
runs-preserved c =
    let runs = c.args.runs.now in
    let i = c.runs.run-index in
    let cells = cells-behind runs i (bound_of c.args.set.now) c.runs-test.true c.runs.invariant.cells in
    elim c.match-run.branch [
      | in-None w ↦ record {
        bound = ap bound_of w.set-is ∙ c.runs.invariant.bound;
        cells = cells;
        members = λ k. hole-among runs i k _ c.runs.set c.match-run.set c.runs-test.true w.in-None.is w.set-is (c.runs.invariant.members k);
      }
      | in-Some+then-run-gt0+in_default w ↦ record {
        bound = ap bound_of w.set-is ∙ w.in_default.ensures.bound ∙ c.runs.invariant.bound;
        cells = cells;
        members = λ k. some-among runs i k w.in-Some.first _ c.runs.set w.add_run.new.set c.match-run.set c.runs-test.true w.in-Some.is w.set-is w.in_default.ensures (c.runs.invariant.members k);
      }
      | in-Some+else-run-gt0 w ↦ record {
        bound = ap bound_of w.set-is ∙ c.runs.invariant.bound;
        cells = cells;
        members = λ k. empty-among runs i k _ c.runs.set c.match-run.set c.runs-test.true w.if-run-gt0.false w.set-is (c.runs.invariant.members k);
      }
    ]

pub returns : goal.returns
returns c = record { bound = c.runs.invariant.bound; members = λ k. no-among c.args.runs.now c.runs.run-index k _ (has c.runs.set k) c.runs-test.false (c.runs.invariant.members k) }
