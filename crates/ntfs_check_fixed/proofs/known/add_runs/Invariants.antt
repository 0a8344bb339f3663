use Rattle.std.proofs.Common.{◌≡◌, ◌||◌, ℕ, drop}
use Rattle.std.specs.Prelude.{true}
use Rattle.ntfs_bitmap.specs.ClusterSet.{bound_of, has}
use Rattle.ntfs_check_fixed.specs.Facts.{is_among}
use Rattle.ntfs_runs.specs.Cells.{are_cells}
use Rattle.ntfs_runs.specs.Clusters.{vcns}
use Rattle.ntfs_check_fixed.proofs.known.add_runs.Given as goal

abbrev pub invariant-runs : goal.invariant-runs
invariant-runs l = record {
  bound : bound_of l.set ≡ bound_of l.initial.set;
  cells : are_cells true (bound_of l.initial.set) (vcns (drop l.run-index l.runs)) ≡ true;
  members : (k : ℕ) → (has l.initial.set k || is_among (vcns l.runs) k) ≡ (has l.set k || is_among (vcns (drop l.run-index l.runs)) k);
}
