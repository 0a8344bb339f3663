-- The entry of a list before another. The words are ours.
use Rattle.std.specs.Prelude.{Bool, false, Option, Some, None}
use Rattle.ntfs_attrlist.specs.Entry.{Listed}
use Rattle.ntfs_attrlist.specs.Views.{shown_entry}
use Rattle.ntfs_attrlist.specs.declared.entry.ListEntry.{ListEntry}
use Rattle.ntfs_volume.specs.Gather.{lists}

-- it, where there is one, names the same type and name
abbrev pub like_last : Option ListEntry → Listed → Bool
like_last None entry = false
like_last (Some other) entry = lists entry.kind entry.name (shown_entry other)
