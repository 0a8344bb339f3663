use Rattle.std.proofs.Common.{◌≡◌, take, map}
use Rattle.std.specs.Prelude.{flat_map}
use Rattle.ntfs_make.specs.Table.{root_name_value}
use Rattle.ntfs_make.specs.Index.{entry_bytes}
use Rattle.ntfs_make.proofs.index.entries_of.Given as goal

abbrev pub invariant-names : goal.invariant-names
invariant-names l = l.entries.items ≡ flat_map (λ each. entry_bytes each.number each.name) (map root_name_value (take l.one-index l.names))
