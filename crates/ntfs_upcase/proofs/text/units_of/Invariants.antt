use Rattle.std.proofs.Common.{◌≡◌}
use Rattle.std.specs.List.{flat_map}
use Rattle.std.specs.Char.Escape.{encode_utf16}
use Rattle.ntfs_upcase.specs.Names.{unit_bytes}
use Rattle.ntfs_upcase.proofs.text.units_of.Given as goal

abbrev pub invariant-characters : goal.invariant-characters
invariant-characters l = l.name.items ≡ unit_bytes (flat_map encode_utf16 l.yielded)
