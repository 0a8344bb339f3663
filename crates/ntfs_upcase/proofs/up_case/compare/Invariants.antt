use Rattle.std.proofs.Common.{◌≡◌, length}
use Rattle.ntfs_upcase.specs.Collation.{collate}
use Rattle.ntfs_upcase.proofs.up_case.compare.Given as goal

abbrev pub invariant-units : goal.invariant-units
invariant-units l = collate l.table l.a_left l.b_left ≡ collate l.table l.a l.b

abbrev pub decreases-units : goal.decreases-units
decreases-units l = length l.a_left
