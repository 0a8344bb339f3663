-- One entry of an attribute list, and what it says (the Linux-NTFS documentation, "$ATTRIBUTE_LIST").
use Rattle.std.specs.Prelude.{◌≡◌, ◌≤◌, ◌<◌, ◌+◌, ◌*◌, ◌%◌, ◌^◌, ℕ, List, length}
use Rattle.ntfs_attrlist.specs.Layout.{entry_kind, list_entry_length, entry_name_units, entry_name_offset, entry_lowest, entry_reference, entry_instance, entry_name}

-- what an entry says of one attribute: its type, its name, the lowest VCN that it holds, the reference of the file
-- record in which it stands, and its instance there
pub record Listed : Type 0 where
  pub kind : ℕ
  pub name : List ℕ
  pub lowest : ℕ
  pub reference : ℕ
  pub instance : ℕ

-- what the bytes of an entry say
unfoldable pub listed_of : List ℕ → Listed
listed_of raw = record {
  kind = entry_kind raw;
  name = entry_name raw;
  lowest = entry_lowest raw;
  reference = entry_reference raw;
  instance = entry_instance raw;
}

-- these bytes, all of them, are one entry: the fields of 26 bytes are there, the length is that of the bytes, and the
-- name ends within them, an empty one too
pub record IsRawEntry (raw : List ℕ) : Type 0 where
  pub fields : 26 ≤ length raw
  pub whole : list_entry_length raw ≡ length raw
  pub name : entry_name_offset raw + 2 * entry_name_units raw ≤ length raw

-- what an entry of a list of so many bytes says fits the fields that hold it, and its name lies in the list; a word of
-- our own
pub record HasEntryBounds (size : ℕ) (listed : Listed) : Type 0 where
  pub kind : listed.kind < 2 ^ 32
  pub name : length listed.name ≤ 510
  pub within : length listed.name ≤ size
  pub units : length listed.name % 2 ≡ 0
  pub lowest : listed.lowest < 2 ^ 64
  pub reference : listed.reference < 2 ^ 64
  pub instance : listed.instance < 2 ^ 16
