use Rattle.std.proofs.Common.{ap, ◌∙◌}
use Rattle.ntfs_bitmap.specs.ClusterSet.{bound_of, has}
use Rattle.ntfs_owners.proofs.CoverLemmas.{hole-added, run-added, runs-last, runs-next}
use Rattle.ntfs_owners.proofs.cover.add_runs.Goals as goal
use Rattle.ntfs_owners.proofs.cover.add_runs.Goals.{in-Some+in_ok-add_row, in_default}

pub runs-preserved : goal.runs-preserved
runs-preserved c = elim c.match-run.branch [
  | in-Some+in_ok-add_row w ↦ record {
    bound = ap bound_of w.set-is ∙ w.in_ok-add_row.ensures.bound;
    added = λ k below. runs-next c.args.runs.now c.runs.run-index k _ _ _ c.runs-test.true
        (run-added k _ w.in-Some.first _ _ _ w.in-Some.is (ap (λ set. has set k) w.set-is ∙ w.in_ok-add_row.ensures.added k below))
        (c.runs.invariant.added k below);
  }
  | in_default w ↦ record {
    bound = ap bound_of w.set-is ∙ c.runs.invariant.bound;
    added = λ k below. runs-next c.args.runs.now c.runs.run-index k _ _ _ c.runs-test.true
        (hole-added k _ _ _ _ w.in_default.is (ap (λ set. has set k) w.set-is)) (c.runs.invariant.added k below);
  }
]

pub returns-clause-added : goal.returns-clause-added
returns-clause-added c = λ k below. runs-last c.args.runs.now c.runs.run-index k _ _ c.runs-test.false (c.runs.invariant.added k below)
