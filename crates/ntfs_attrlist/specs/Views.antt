-- What an entry in place shows, its name as a list of bytes; the words are ours.
use Rattle.std.specs.Prelude.{Result}
use Rattle.std.specs.Result.{result_map_both}
use Rattle.ntfs_attrlist.specs.declared.entry.ListEntry.{ListEntry}
use Rattle.ntfs_attrlist.specs.declared.fault.BadEntry.{BadEntry}
use Rattle.ntfs_attrlist.specs.Entry.{Listed}

abbrev pub shown_entry : ListEntry → Listed
shown_entry entry = record {
  kind = entry.kind;
  name = entry.name.now;
  lowest = entry.lowest;
  reference = entry.reference;
  instance = entry.instance;
}

abbrev pub shown_item : Result ListEntry BadEntry → Result Listed BadEntry
shown_item item = result_map_both shown_entry (λ fault. fault) item
