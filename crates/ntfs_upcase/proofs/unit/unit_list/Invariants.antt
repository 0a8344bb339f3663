use Rattle.std.proofs.Common.{◌≡◌, ◌++◌, length}
use Rattle.ntfs_upcase.specs.Names.{units}
use Rattle.ntfs_upcase.proofs.unit.unit_list.Given as goal

abbrev pub invariant-units : goal.invariant-units
invariant-units l = l.list.items ++ units l.left ≡ units l.bytes

abbrev pub decreases-units : goal.decreases-units
decreases-units l = length l.left
