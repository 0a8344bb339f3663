use Rattle.std.proofs.Common.{◌≡◌, ◌+◌, drop, length}
use Rattle.ntfs_runs.specs.Clusters.{vcns}
use Rattle.ntfs_runs.proofs.cells.count_of.Given as goal

abbrev pub invariant-runs : goal.invariant-runs
invariant-runs l = l.count + length (vcns (drop l.run-index l.runs)) ≡ length (vcns l.runs)
