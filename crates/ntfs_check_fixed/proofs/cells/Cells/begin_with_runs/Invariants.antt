use Rattle.std.proofs.Common.{◌≡◌, drop}
use Rattle.ntfs_rules.specs.FixedRecords.{begin_with}
use Rattle.ntfs_runs.specs.Clusters.{vcns}
use Rattle.ntfs_volume.specs.StreamBytes.{clusters_in}
use Rattle.ntfs_check_fixed.proofs.cells.Cells.begin_with_runs.Given as goal

abbrev pub invariant-given : goal.invariant-given
invariant-given l = begin_with (clusters_in (vcns l.runs)) l.initial.self ≡ begin_with (clusters_in (vcns (drop l.run-index l.runs))) l.self
