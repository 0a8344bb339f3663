-- Where the fields of an entry of an attribute list stand: one reader for each field, with its name in the layout's
-- public headers, its offset and its size (the Linux-NTFS documentation, "$ATTRIBUTE_LIST"). An entry is a list of
-- bytes of its own.
use Rattle.std.specs.Prelude.{ℕ, ◌*◌, List, take, drop}
use Rattle.ntfs_base.specs.Bytes.{number_at}

-- type, u32 at 0x00: the type of the attribute
abbrev pub entry_kind : List ℕ → ℕ
entry_kind raw = number_at 4 0x00 raw

-- length, u16 at 0x04: the bytes of the entry
abbrev pub list_entry_length : List ℕ → ℕ
list_entry_length raw = number_at 2 0x04 raw

-- name_length, u8 at 0x06: the units of the attribute's name, of two bytes each
abbrev pub entry_name_units : List ℕ → ℕ
entry_name_units raw = number_at 1 0x06 raw

-- name_offset, u8 at 0x07: the offset of the name, in bytes from the entry's first
abbrev pub entry_name_offset : List ℕ → ℕ
entry_name_offset raw = number_at 1 0x07 raw

-- lowest_vcn, u64 at 0x08: the first VCN that the attribute holds, 0 where it is resident
abbrev pub entry_lowest : List ℕ → ℕ
entry_lowest raw = number_at 8 0x08 raw

-- mft_reference, u64 at 0x10: the reference of the file record in which the attribute stands
abbrev pub entry_reference : List ℕ → ℕ
entry_reference raw = number_at 8 0x10 raw

-- instance, u16 at 0x18: the attribute's instance in that record
abbrev pub entry_instance : List ℕ → ℕ
entry_instance raw = number_at 2 0x18 raw

-- name: the attribute's name, UTF-16LE
abbrev pub entry_name : List ℕ → List ℕ
entry_name raw = take (2 * entry_name_units raw) (drop (entry_name_offset raw) raw)
