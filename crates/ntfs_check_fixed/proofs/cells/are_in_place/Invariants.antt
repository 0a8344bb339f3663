use Rattle.std.proofs.Common.{◌≡◌, ◌-◌, ◌^◌, ℕ, drop, min}
use Rattle.ntfs_rules.specs.FixedRecords.{are_in_place}
use Rattle.ntfs_runs.specs.Cells.{are_cells}
use Rattle.ntfs_runs.specs.Clusters.{vcns}
use Rattle.std.specs.Prelude.{true}
use Rattle.ntfs_check_fixed.proofs.cells.are_in_place.Given as goal

abbrev pub invariant-runs : goal.invariant-runs
invariant-runs l = record {
  below : are_cells true l.clusters (vcns (drop l.run-index l.runs)) ≡ true;
  place : (vcn : ℕ) × (l.vcn ≡ min vcn (2 ^ 64 - 1)) × (are_in_place 0 (vcns l.runs) ≡ are_in_place vcn (vcns (drop l.run-index l.runs)));
}
