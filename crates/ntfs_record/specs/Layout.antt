-- Where the fields of a file record and of its attributes stand: one reader and one setter for each field, with its
-- name in the public layout, its size and its offset (the Linux-NTFS documentation, "File Record" and "Attribute
-- Header"). The place of an attribute counts from the record's first byte, an offset within an attribute from the
-- attribute's. The update sequence array's offset and count are ntfs_fixup's.
pub use Rattle.ntfs_fixup.specs.Fixups.{array_offset, array_count}
use Rattle.std.specs.Prelude.{ℕ, ◌+◌, List, [], ◌∷◌}
use Rattle.byteorder.specs.Endian.{little_bytes}
use Rattle.ntfs_base.specs.Bytes.{number_at, overwrite}

-- ---- the file record

-- lsn, u64 at 0x08: the record's number in the journal's log
abbrev pub log_number_of : List ℕ → ℕ
log_number_of bytes = number_at 8 0x08 bytes

-- the bytes with another value of the field
unfoldable pub with_log_number : ℕ → List ℕ → List ℕ
with_log_number log_number bytes = overwrite 0x08 (little_bytes 8 log_number) bytes

-- sequence_number, u16 at 0x10: the sequence number
abbrev pub sequence_of : List ℕ → ℕ
sequence_of bytes = number_at 2 0x10 bytes

-- the bytes with another value of the field
unfoldable pub with_sequence : ℕ → List ℕ → List ℕ
with_sequence sequence bytes = overwrite 0x10 (little_bytes 2 sequence) bytes

-- link_count, u16 at 0x12: the hard links
abbrev pub links_of : List ℕ → ℕ
links_of bytes = number_at 2 0x12 bytes

-- the bytes with another value of the field
unfoldable pub with_links : ℕ → List ℕ → List ℕ
with_links links bytes = overwrite 0x12 (little_bytes 2 links) bytes

-- attrs_offset, u16 at 0x14: the place of the first attribute
abbrev pub first_attribute_of : List ℕ → ℕ
first_attribute_of bytes = number_at 2 0x14 bytes

-- the bytes with another value of the field
unfoldable pub with_first_attribute : ℕ → List ℕ → List ℕ
with_first_attribute first_attribute bytes = overwrite 0x14 (little_bytes 2 first_attribute) bytes

-- flags, u16 at 0x16: 1 in use, 2 directory
abbrev pub flags_of : List ℕ → ℕ
flags_of bytes = number_at 2 0x16 bytes

-- the bytes with another value of the field
unfoldable pub with_flags : ℕ → List ℕ → List ℕ
with_flags flags bytes = overwrite 0x16 (little_bytes 2 flags) bytes

-- bytes_in_use, u32 at 0x18: the bytes in use
abbrev pub in_use_of : List ℕ → ℕ
in_use_of bytes = number_at 4 0x18 bytes

-- the bytes with another value of the field
unfoldable pub with_in_use : ℕ → List ℕ → List ℕ
with_in_use in_use bytes = overwrite 0x18 (little_bytes 4 in_use) bytes

-- bytes_allocated, u32 at 0x1C: the bytes allocated
abbrev pub allocated_of : List ℕ → ℕ
allocated_of bytes = number_at 4 0x1C bytes

-- the bytes with another value of the field
unfoldable pub with_allocated : ℕ → List ℕ → List ℕ
with_allocated allocated bytes = overwrite 0x1C (little_bytes 4 allocated) bytes

-- base_mft_record, u64 at 0x20: the reference of the base record, 0 in a base record
abbrev pub base_of : List ℕ → ℕ
base_of bytes = number_at 8 0x20 bytes

-- the bytes with another value of the field
unfoldable pub with_base : ℕ → List ℕ → List ℕ
with_base base bytes = overwrite 0x20 (little_bytes 8 base) bytes

-- next_attr_instance, u16 at 0x28: the instance of the next attribute
abbrev pub next_instance_of : List ℕ → ℕ
next_instance_of bytes = number_at 2 0x28 bytes

-- the bytes with another value of the field
unfoldable pub with_next_instance : ℕ → List ℕ → List ℕ
with_next_instance next_instance bytes = overwrite 0x28 (little_bytes 2 next_instance) bytes

-- mft_record_number, u32 at 0x2C: the record's own number, where the record tells it
abbrev pub own_number_of : List ℕ → ℕ
own_number_of bytes = number_at 4 0x2C bytes

-- the bytes with another value of the field
unfoldable pub with_own_number : ℕ → List ℕ → List ℕ
with_own_number own_number bytes = overwrite 0x2C (little_bytes 4 own_number) bytes

-- ---- an attribute at a place

-- type, u32 at 0x00: the type
abbrev pub kind_at : ℕ → List ℕ → ℕ
kind_at place bytes = number_at 4 place bytes

-- the bytes with another value of the field
unfoldable pub with_kind_at : ℕ → ℕ → List ℕ → List ℕ
with_kind_at place kind bytes = overwrite place (little_bytes 4 kind) bytes

-- length, u32 at 0x04: the length of the attribute
abbrev pub length_at : ℕ → List ℕ → ℕ
length_at place bytes = number_at 4 (place + 0x04) bytes

-- the bytes with another value of the field
unfoldable pub with_length_at : ℕ → ℕ → List ℕ → List ℕ
with_length_at place length bytes = overwrite (place + 0x04) (little_bytes 4 length) bytes

-- non_resident, u8 at 0x08: 0 in a resident attribute, 1 in a non-resident one
abbrev pub non_resident_at : ℕ → List ℕ → ℕ
non_resident_at place bytes = number_at 1 (place + 0x08) bytes

-- the bytes with another value of the field
unfoldable pub with_non_resident_at : ℕ → ℕ → List ℕ → List ℕ
with_non_resident_at place non_resident bytes = overwrite (place + 0x08) (non_resident ∷ []) bytes

-- name_length, u8 at 0x09: the units of the name, of two bytes each
abbrev pub name_units_at : ℕ → List ℕ → ℕ
name_units_at place bytes = number_at 1 (place + 0x09) bytes

-- the bytes with another value of the field
unfoldable pub with_name_units_at : ℕ → ℕ → List ℕ → List ℕ
with_name_units_at place name_units bytes = overwrite (place + 0x09) (name_units ∷ []) bytes

-- name_offset, u16 at 0x0A: the offset of the name
abbrev pub name_offset_at : ℕ → List ℕ → ℕ
name_offset_at place bytes = number_at 2 (place + 0x0A) bytes

-- the bytes with another value of the field
unfoldable pub with_name_offset_at : ℕ → ℕ → List ℕ → List ℕ
with_name_offset_at place name_offset bytes = overwrite (place + 0x0A) (little_bytes 2 name_offset) bytes

-- flags, u16 at 0x0C: the low byte compressed, 0x4000 encrypted, 0x8000 sparse
abbrev pub attribute_flags_at : ℕ → List ℕ → ℕ
attribute_flags_at place bytes = number_at 2 (place + 0x0C) bytes

-- the bytes with another value of the field
unfoldable pub with_attribute_flags_at : ℕ → ℕ → List ℕ → List ℕ
with_attribute_flags_at place attribute_flags bytes = overwrite (place + 0x0C) (little_bytes 2 attribute_flags) bytes

-- instance, u16 at 0x0E: the instance, which tells the attributes of a record apart
abbrev pub instance_at : ℕ → List ℕ → ℕ
instance_at place bytes = number_at 2 (place + 0x0E) bytes

-- the bytes with another value of the field
unfoldable pub with_instance_at : ℕ → ℕ → List ℕ → List ℕ
with_instance_at place instance bytes = overwrite (place + 0x0E) (little_bytes 2 instance) bytes

-- value_length, u32 at 0x10 of a resident attribute: the length of the value
abbrev pub value_length_at : ℕ → List ℕ → ℕ
value_length_at place bytes = number_at 4 (place + 0x10) bytes

-- the bytes with another value of the field
unfoldable pub with_value_length_at : ℕ → ℕ → List ℕ → List ℕ
with_value_length_at place value_length bytes = overwrite (place + 0x10) (little_bytes 4 value_length) bytes

-- value_offset, u16 at 0x14 of a resident attribute: the offset of the value
abbrev pub value_offset_at : ℕ → List ℕ → ℕ
value_offset_at place bytes = number_at 2 (place + 0x14) bytes

-- the bytes with another value of the field
unfoldable pub with_value_offset_at : ℕ → ℕ → List ℕ → List ℕ
with_value_offset_at place value_offset bytes = overwrite (place + 0x14) (little_bytes 2 value_offset) bytes

-- lowest_vcn, u64 at 0x10 of a non-resident attribute: the lowest VCN
abbrev pub lowest_at : ℕ → List ℕ → ℕ
lowest_at place bytes = number_at 8 (place + 0x10) bytes

-- the bytes with another value of the field
unfoldable pub with_lowest_at : ℕ → ℕ → List ℕ → List ℕ
with_lowest_at place lowest bytes = overwrite (place + 0x10) (little_bytes 8 lowest) bytes

-- highest_vcn, u64 at 0x18 of a non-resident attribute: the highest VCN, a signed number, of which -1 says
-- that there is no VCN
abbrev pub highest_at : ℕ → List ℕ → ℕ
highest_at place bytes = number_at 8 (place + 0x18) bytes

-- the bytes with another value of the field
unfoldable pub with_highest_at : ℕ → ℕ → List ℕ → List ℕ
with_highest_at place highest bytes = overwrite (place + 0x18) (little_bytes 8 highest) bytes

-- mapping_pairs_offset, u16 at 0x20 of a non-resident attribute: the offset of the mapping pairs
abbrev pub pairs_offset_at : ℕ → List ℕ → ℕ
pairs_offset_at place bytes = number_at 2 (place + 0x20) bytes

-- the bytes with another value of the field
unfoldable pub with_pairs_offset_at : ℕ → ℕ → List ℕ → List ℕ
with_pairs_offset_at place pairs_offset bytes = overwrite (place + 0x20) (little_bytes 2 pairs_offset) bytes

-- allocated_size, u64 at 0x28 of a non-resident attribute: the size of its clusters
abbrev pub allocated_at : ℕ → List ℕ → ℕ
allocated_at place bytes = number_at 8 (place + 0x28) bytes

-- the bytes with another value of the field
unfoldable pub with_allocated_at : ℕ → ℕ → List ℕ → List ℕ
with_allocated_at place allocated bytes = overwrite (place + 0x28) (little_bytes 8 allocated) bytes

-- data_size, u64 at 0x30 of a non-resident attribute: the size of the stream
abbrev pub size_at : ℕ → List ℕ → ℕ
size_at place bytes = number_at 8 (place + 0x30) bytes

-- the bytes with another value of the field
unfoldable pub with_size_at : ℕ → ℕ → List ℕ → List ℕ
with_size_at place size bytes = overwrite (place + 0x30) (little_bytes 8 size) bytes

-- initialized_size, u64 at 0x38 of a non-resident attribute: the initialised size
abbrev pub valid_at : ℕ → List ℕ → ℕ
valid_at place bytes = number_at 8 (place + 0x38) bytes

-- the bytes with another value of the field
unfoldable pub with_valid_at : ℕ → ℕ → List ℕ → List ℕ
with_valid_at place valid bytes = overwrite (place + 0x38) (little_bytes 8 valid) bytes
