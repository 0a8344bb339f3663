-- The attributes of a record (the Linux-NTFS documentation, "Attribute Header", "$ATTRIBUTE_LIST"). The names at the
-- fields are those of the layout; a field's place counts from the front of the attribute or entry. The words are
-- ours.
use Rattle.std.specs.Prelude.{◌+◌, ◌-◌, ◌*◌, ◌%◌, ◌^◌, ◌==◌, ℕ, List, [], ◌∷◌, ◌++◌, length, flat_map, Option, Some, None, if◌then◌else◌}
use Rattle.ntfs_make.specs.declared.shape.Shape.{Shape}
use Rattle.ntfs_make.specs.declared.field.Field.TheVariants.{U8, U16, U32, U64, Zeros}
use Rattle.ntfs_make.specs.declared.table.ListEntry.{ListEntry}
use Rattle.ntfs_make.specs.declared.table.LowestVcn.{LowestVcn}
use Rattle.ntfs_make.specs.declared.table.LowestVcn.TheVariants.{Zero, Behind}
use Rattle.ntfs_make.specs.declared.table.Size.{Size}
use Rattle.ntfs_make.specs.declared.table.Extent.{Extent}
use Rattle.ntfs_make.specs.Fields.{fields_bytes, with_padding, utf16_bytes, zero_bytes}
use Rattle.ntfs_make.specs.Table.{AttributeValue, BodyValue, ZerosBody, BytesBody, ListBody, NameBody, RootBody, ExtentBody}
use Rattle.ntfs_make.specs.Areas.{area_at}
use Rattle.ntfs_make.specs.Extents.{run_of, vcn_count, pairs_of, size_bytes, planned_runs}
use Rattle.ntfs_make.specs.Index.{reference, file_name_bytes, root_bytes}

-- the lowest VCN that an entry of an attribute list tells
abbrev pub listed_lowest : Shape → LowestVcn → ℕ
listed_lowest shape Zero = 0
listed_lowest shape (Behind number) = (area_at shape number).length

-- an entry of an attribute list, without a name
unfoldable pub list_entry_bytes : Shape → ListEntry → List ℕ
list_entry_bytes shape entry =
    fields_bytes (
    U32 entry.kind  -- 0x00 type
    ∷ U16 32  -- 0x04 length
    ∷ U8 0  -- 0x06 name_length
    ∷ U8 26  -- 0x07 name_offset
    ∷ U64 (listed_lowest shape entry.lowest)  -- 0x08 lowest_vcn
    ∷ U64 (reference entry.number)  -- 0x10 mft_reference
    ∷ U16 entry.instance  -- 0x18 instance
    ∷ Zeros 6  -- 0x1A
    ∷ [])

unfoldable pub list_bytes : Shape → List ListEntry → List ℕ
list_bytes shape list = flat_map (list_entry_bytes shape) list

-- a resident value; an extent has none
unfoldable pub value_of : Shape → BodyValue → List ℕ
value_of shape (ZerosBody count) = zero_bytes count
value_of shape (BytesBody bytes) = bytes
value_of shape (ListBody entries) = list_bytes shape entries
value_of shape (NameBody file) = file_name_bytes file
value_of shape (RootBody node) = root_bytes shape node
value_of shape (ExtentBody extent) = []

-- an attribute with a resident value
unfoldable pub resident_bytes : ℕ → List ℕ → ℕ → List ℕ → List ℕ
resident_bytes kind name instance value =
    fields_bytes (
    U32 kind  -- 0x00 type
    ∷ U32 (24 + length (with_padding (with_padding (utf16_bytes name) ++ value)))  -- 0x04 length
    ∷ U8 0  -- 0x08 non_resident
    ∷ U8 (length name)  -- 0x09 name_length
    ∷ U16 24  -- 0x0A name_offset
    ∷ U16 0  -- 0x0C flags
    ∷ U16 instance  -- 0x0E instance
    ∷ U32 (length value)  -- 0x10 value_length
    ∷ U16 (24 + length (with_padding (utf16_bytes name)))  -- 0x14 value_offset
    ∷ U16 0  -- 0x16 resident_flags, reserved
    ∷ [])
    ++ with_padding (with_padding (utf16_bytes name) ++ value)  -- 0x18

-- the bytes of the extent's clusters, where the extent tells them
unfoldable pub compressed_size_bytes : Shape → Option Size → List ℕ
compressed_size_bytes shape None = []
compressed_size_bytes shape (Some size) = fields_bytes (U64 (size_bytes shape size) ∷ [])

-- the lowest VCN of an extent: how many stand before it in its stream
abbrev pub extent_lowest : Shape → Extent → ℕ
extent_lowest shape extent = (run_of shape extent.before).length

-- the VCN behind an extent
abbrev pub extent_next : Shape → Extent → ℕ
extent_next shape extent = extent_lowest shape extent + vcn_count shape (planned_runs extent)

-- the bytes of all VCNs of the stream, which its first extent alone tells
unfoldable pub allocated_size_of : Shape → Extent → ℕ
allocated_size_of shape extent =
    if extent_lowest shape extent == 0
    then (vcn_count shape (planned_runs extent) + (run_of shape extent.behind).length) * shape.cluster
    else 0

-- what stands between the fields of an extent and its mapping pairs: compressed_size at 0x40, where it is told, and
-- the name
unfoldable pub front_bytes : Shape → List ℕ → Extent → List ℕ
front_bytes shape name extent = compressed_size_bytes shape extent.compressed_size ++ with_padding (utf16_bytes name)

-- where the mapping pairs begin
abbrev pub pairs_place : Shape → List ℕ → Extent → ℕ
pairs_place shape name extent = 64 + length (front_bytes shape name extent)

-- what stands behind the fields: the name and the mapping pairs, up to a multiple of 8
unfoldable pub tail_bytes : Shape → List ℕ → Extent → List ℕ
tail_bytes shape name extent =
    with_padding (front_bytes shape name extent ++ pairs_of shape (planned_runs extent))

-- the fields of an extent from 0x10 on; the highest VCN is -1 where there is none
unfoldable pub sizes_bytes : Shape → ℕ → Extent → List ℕ
sizes_bytes shape place extent =
    fields_bytes (
    U64 (extent_lowest shape extent)  -- 0x10 lowest_vcn
    ∷ U64 ((extent_next shape extent + (2 ^ 64 - 1)) % 2 ^ 64)  -- 0x18 highest_vcn
    ∷ U16 place  -- 0x20 mapping_pairs_offset
    ∷ U16 extent.unit  -- 0x22 compression_unit
    ∷ U32 0  -- 0x24 reserved
    ∷ U64 (allocated_size_of shape extent)  -- 0x28 allocated_size
    ∷ U64 (size_bytes shape extent.size)  -- 0x30 data_size
    ∷ U64 (size_bytes shape extent.initialised)  -- 0x38 initialized_size
    ∷ [])

-- an attribute in clusters
unfoldable pub nonresident_bytes : Shape → ℕ → List ℕ → ℕ → Extent → List ℕ
nonresident_bytes shape kind name instance extent =
    fields_bytes (
    U32 kind  -- 0x00 type
    ∷ U32 (64 + length (tail_bytes shape name extent))  -- 0x04 length
    ∷ U8 1  -- 0x08 non_resident
    ∷ U8 (length name)  -- 0x09 name_length
    ∷ U16 64  -- 0x0A name_offset
    ∷ U16 extent.flags  -- 0x0C flags
    ∷ U16 instance  -- 0x0E instance
    ∷ [])
    ++ sizes_bytes shape (pairs_place shape name extent) extent
    ++ tail_bytes shape name extent

abbrev pub body_bytes : Shape → ℕ → List ℕ → ℕ → BodyValue → List ℕ
body_bytes shape kind name instance (ExtentBody extent) = nonresident_bytes shape kind name instance extent
body_bytes shape kind name instance (ZerosBody count) =
    resident_bytes kind name instance (value_of shape (ZerosBody count))
body_bytes shape kind name instance (BytesBody bytes) =
    resident_bytes kind name instance (value_of shape (BytesBody bytes))
body_bytes shape kind name instance (ListBody entries) =
    resident_bytes kind name instance (value_of shape (ListBody entries))
body_bytes shape kind name instance (NameBody file) =
    resident_bytes kind name instance (value_of shape (NameBody file))
body_bytes shape kind name instance (RootBody node) =
    resident_bytes kind name instance (value_of shape (RootBody node))

-- an attribute with its instance
unfoldable pub attribute_bytes : Shape → ℕ → AttributeValue → List ℕ
attribute_bytes shape instance attribute = body_bytes shape attribute.kind attribute.name instance attribute.body

-- attributes, whose instances count up
abbrev pub attributes_bytes : Shape → ℕ → List AttributeValue → List ℕ
attributes_bytes shape instance [] = []
attributes_bytes shape instance (attribute ∷ attributes) =
    attribute_bytes shape instance attribute ++ attributes_bytes shape (instance + 1) attributes
