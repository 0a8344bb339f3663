use Rattle.std.proofs.Common.{◌≡◌, ◌+◌, ◌-◌, ◌++◌, ℕ, List, Some}
use Rattle.ntfs_rules.specs.FixedRecords.{begin_with}
use Rattle.ntfs_runs.specs.Clusters.{row}
use Rattle.ntfs_volume.specs.StreamBytes.{clusters_in}
use Rattle.ntfs_check_fixed.proofs.cells.Cells.begin_with_row.Given as goal

abbrev pub invariant-clusters : goal.invariant-clusters
invariant-clusters l = (rest : List ℕ) → begin_with (clusters_in (row l.count (Some l.first)) ++ rest) l.initial.self
    ≡ begin_with (clusters_in (row (l.count - l.place) (Some (l.first + l.place))) ++ rest) l.self
