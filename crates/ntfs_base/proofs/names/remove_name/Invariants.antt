use Rattle.std.proofs.Common.{◌≡◌, ◌++◌, take, drop, map, string_bytes}
use Rattle.ntfs_base.specs.Shelf.{without}
use Rattle.ntfs_base.proofs.names.remove_name.Given as goal

-- the names so far are others
abbrev pub invariant-names : goal.invariant-names
invariant-names l =
    (l.names ≡ l.initial.names)
    × (without l.name (map string_bytes l.names.items) ≡ take l.index (map string_bytes l.names.items) ++ without l.name (drop l.index (map string_bytes l.names.items)))
