use Rattle.std.proofs.Common.{◌≡◌}
use Rattle.ntfs_bitmap.specs.ClusterSet.{bound_of}
use Rattle.ntfs_bitmap.proofs.tests.scattered_claims_are_those_of_a_plain_list.Given as goal

abbrev pub invariant-claims : goal.invariant-claims
invariant-claims g l = bound_of l.set ≡ 400
