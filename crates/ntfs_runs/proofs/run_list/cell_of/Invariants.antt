use Rattle.std.proofs.Common.{◌≡◌, drop, slice_get}
use Rattle.ntfs_runs.specs.Clusters.{vcns}
use Rattle.ntfs_runs.proofs.run_list.cell_of.Given as goal

abbrev pub invariant-runs : goal.invariant-runs
invariant-runs l = slice_get (vcns (drop l.run-index l.runs)) l.left ≡ slice_get (vcns l.runs) l.vcn
