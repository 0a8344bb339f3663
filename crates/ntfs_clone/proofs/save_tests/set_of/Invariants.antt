use Rattle.std.proofs.Common.{◌≡◌}
use Rattle.ntfs_bitmap.specs.ClusterSet.{bound_of}
use Rattle.ntfs_clone.proofs.save_tests.set_of.Given as goal

abbrev pub invariant-runs : goal.invariant-runs
invariant-runs l = bound_of l.set ≡ l.bound
