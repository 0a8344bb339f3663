use Rattle.std.proofs.Common.{◌≡◌, ◌++◌, take}
use Rattle.ntfs_upcase.specs.Names.{unit_bytes}
use Rattle.ntfs_upcase.proofs.text.push_character.Given as goal

abbrev pub invariant-units : goal.invariant-units
invariant-units l = l.name.items ≡ l.initial.name.items ++ unit_bytes (take l.unit-index l.spelled)
