use Rattle.std.proofs.Common.{◌≡◌, ◌++◌, take}
use Rattle.std.specs.Prelude.{flat_map}
use Rattle.ntfs_make.specs.Attributes.{list_entry_bytes}
use Rattle.ntfs_make.proofs.attribute.put_list.Given as goal

abbrev pub invariant-entries : goal.invariant-entries
invariant-entries l = l.out.items ≡ l.fn.out.items ++ flat_map (list_entry_bytes l.layout) (take l.entry-index l.list)
