use Rattle.std.proofs.Common.{◌≡◌, drop}
use Rattle.ntfs_runs.specs.Clusters.{vcns}
use Rattle.ntfs_runs.specs.Cells.{are_cells}
use Rattle.ntfs_runs.proofs.cells.are_below.Given as goal

abbrev pub invariant-runs : goal.invariant-runs
invariant-runs l = are_cells l.holes l.clusters (vcns (drop l.run-index l.runs)) ≡ are_cells l.holes l.clusters (vcns l.runs)
