use Rattle.std.proofs.Common.{◌≡◌, ◌∷◌, length}
use Rattle.ntfs_runs.specs.Clusters.{AreWithin, vcns}
use Rattle.ntfs_check_fixed.proofs.cells.Cells.step.Given as goal

abbrev pub invariant-runs : goal.invariant-runs
invariant-runs l = record {
  cells : vcns (l.initial.self-inside.run ∷ l.initial.self-inside.rest.now) ≡ vcns (l.self-inside.run ∷ l.self-inside.rest.now);
  within : AreWithin (l.self-inside.run ∷ l.self-inside.rest.now);
}

abbrev pub decreases-runs : goal.decreases-runs
decreases-runs l = length l.self-inside.rest.now
