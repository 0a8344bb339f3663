-- The entries of a list, one after the other. The words are ours.
use Rattle.std.specs.Prelude.{List, [], ◌∷◌, Result, Ok, Err}
use Rattle.ntfs_attrlist.specs.Entry.{Listed}
use Rattle.ntfs_attrlist.specs.declared.fault.BadEntry.{BadEntry}

-- the entries that are right
unfoldable pub good_entries : List (Result Listed BadEntry) → List Listed
good_entries [] = []
good_entries (Ok entry ∷ items) = entry ∷ good_entries items
good_entries (Err fault ∷ items) = good_entries items
