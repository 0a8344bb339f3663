use Rattle.std.proofs.Common.{◌≡◌, ◌<◌, ◌||◌, ℕ, drop}
use Rattle.ntfs_bitmap.specs.ClusterSet.{bound_of, has}
use Rattle.ntfs_owners.specs.Owners.{runs_have}
use Rattle.ntfs_owners.proofs.cover.add_runs.Given as goal

abbrev pub invariant-runs : goal.invariant-runs
invariant-runs l = record {
  bound : bound_of l.set ≡ l.bound;
  added : (k : ℕ) → k < l.bound → (has l.set k || runs_have (drop l.run-index l.runs) k) ≡ (has l.initial.set k || runs_have l.runs k);
}
