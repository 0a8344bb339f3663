-- File records (the Linux-NTFS documentation, "File Record"). The names at the fields are those of the layout. The
-- words are ours.
use Rattle.std.specs.Prelude.{◌+◌, ◌-◌, ◌==◌, ℕ, Bool, true, false, List, [], ◌∷◌, ◌++◌, length, take, drop, count_by, Option, Some, None, flat_map, if◌then◌else◌}
use Rattle.ntfs_fixup.specs.Fixups.{refix_of}
use Rattle.ntfs_make.specs.declared.shape.Shape.{Shape}
use Rattle.ntfs_make.specs.declared.field.Field.TheVariants.{U16, U32, U64}
use Rattle.ntfs_make.specs.Fields.{fields_bytes, with_length, zero_bytes}
use Rattle.ntfs_make.specs.Table.{AttributeValue, RowValue, BodyValue, ZerosBody, BytesBody, ListBody, NameBody, RootBody, ExtentBody}
use Rattle.ntfs_make.specs.Index.{reference}
use Rattle.ntfs_make.specs.Attributes.{attributes_bytes}

-- whether an attribute is a file name
abbrev pub is_name_body : BodyValue → Bool
is_name_body (NameBody file) = true
is_name_body (ZerosBody count) = false
is_name_body (BytesBody bytes) = false
is_name_body (ListBody entries) = false
is_name_body (RootBody node) = false
is_name_body (ExtentBody extent) = false

abbrev pub is_name : AttributeValue → Bool
is_name attribute = is_name_body attribute.body

-- how many names a record has
unfoldable pub link_count : List AttributeValue → ℕ
link_count attributes = count_by is_name attributes

-- the base reference: 0 where the record is a base record itself
abbrev pub base_reference : Option ℕ → ℕ
base_reference None = 0
base_reference (Some number) = reference number

-- the header of a record whose attributes have so many bytes, up to the first of them
unfoldable pub header_bytes : RowValue → ℕ → List ℕ
header_bytes row size =
    fields_bytes (
    U32 0x454C4946  -- 0x00 magic
    ∷ U16 0x30  -- 0x04 usa_ofs
    ∷ U16 3  -- 0x06 usa_count
    ∷ U64 0  -- 0x08 lsn
    ∷ U16 1  -- 0x10 sequence_number
    ∷ U16 (link_count row.attributes)  -- 0x12 link_count
    ∷ U16 0x38  -- 0x14 attrs_offset
    ∷ U16 row.flags  -- 0x16 flags
    ∷ U32 (0x38 + size + 8)  -- 0x18 bytes_in_use
    ∷ U32 1024  -- 0x1C bytes_allocated
    ∷ U64 (base_reference row.base)  -- 0x20 base_mft_record
    ∷ U16 (length row.attributes)  -- 0x28 next_attr_instance
    ∷ U16 0  -- 0x2A reserved
    ∷ U32 row.number  -- 0x2C mft_record_number
    ∷ U64 0  -- 0x30 the update sequence array, up to the first attribute
    ∷ [])

-- the end mark, and four zero bytes
unfoldable pub end_mark : List ℕ
end_mark = fields_bytes (U32 0xFFFFFFFF ∷ U32 0 ∷ [])

-- a record in use before its fixups: the header, the attributes and the end
unfoldable pub record_text : Shape → RowValue → List ℕ
record_text shape row =
    header_bytes row (length (attributes_bytes shape 0 row.attributes))
    ++ attributes_bytes shape 0 row.attributes
    ++ end_mark

-- the record of a row, with the fixup number 1; one that isn't in use is zeros
unfoldable pub record_of_row : Shape → RowValue → List ℕ
record_of_row shape row =
    if row.flags == 0 then zero_bytes 1024 else refix_of (with_length 1024 (record_text shape row))

-- records one after the other
abbrev pub records_bytes : Shape → List RowValue → List ℕ
records_bytes shape some = flat_map (record_of_row shape) some

-- the rows from a place on, up to another, as far as there are any
abbrev pub rows_between : ℕ → ℕ → List RowValue → List RowValue
rows_between first last some = take (last - first) (drop first some)
