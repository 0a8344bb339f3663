-- What the readers of the crates below find in the structures that the generator spells: each field that was put at a
-- place is read from it. The layout of each structure stands in the public headers (the Linux-NTFS documentation); the
-- words are ours.
use Rattle.std.specs.Prelude.{◌≡◌, ◌<◌, ◌+◌, ◌-◌, ◌%◌, ◌^◌, ◌/◌, ℕ, List, [], ◌∷◌, ◌++◌, length}
use Rattle.ntfs_base.specs.Bytes.{number_at}
use Rattle.ntfs_attrlist.specs.Layout as listed
use Rattle.ntfs_boot.specs.BootSector.{ntfs_id, oem_id_of, fields_of}
use Rattle.ntfs_index.specs.Layout as indexed
use Rattle.ntfs_record.specs.Layout as recorded
use Rattle.ntfs_make.specs.declared.field.Field.{Field}
use Rattle.ntfs_make.specs.declared.field.Field.TheVariants.{U8, U16, U32, U64, Zeros}
use Rattle.ntfs_make.specs.declared.shape.Shape.{Shape}
use Rattle.ntfs_make.specs.declared.table.Extent.{Extent}
use Rattle.ntfs_make.specs.declared.table.ListEntry.{ListEntry}
use Rattle.ntfs_make.specs.Areas.{area_at}
use Rattle.ntfs_make.specs.Attributes.{allocated_size_of, extent_lowest, extent_next, listed_lowest, pairs_place, tail_bytes}
use Rattle.ntfs_make.specs.Extents.{size_bytes}
use Rattle.ntfs_make.specs.Fields.{utf16_bytes, with_padding}
use Rattle.ntfs_make.specs.Index.{file_name_bytes, reference, root_entries}
use Rattle.ntfs_make.specs.Records.{base_reference, link_count}
use Rattle.ntfs_make.specs.Shape.{sectors}
use Rattle.ntfs_make.specs.Table.{NameValue, RootValue, RowValue}

-- ---- fields

-- the bytes of a field
abbrev pub width : Field → ℕ
width (U8 number) = 1
width (U16 number) = 2
width (U32 number) = 4
width (U64 number) = 8
width (Zeros count) = count

-- the number fits the field
abbrev pub Fits : Field → Type 0
Fits (U8 number) = number < 2 ^ 8
Fits (U16 number) = number < 2 ^ 16
Fits (U32 number) = number < 2 ^ 32
Fits (U64 number) = number < 2 ^ 64
Fits (Zeros count) = Unit {0}

abbrev pub AllFit : List Field → Type 0
AllFit [] = Unit {0}
AllFit (field ∷ fields) = Fits field × AllFit fields

-- the number of a field is read at a place
abbrev pub ReadsField : Field → ℕ → List ℕ → Type 0
ReadsField (U8 number) place bytes = number_at 1 place bytes ≡ number
ReadsField (U16 number) place bytes = number_at 2 place bytes ≡ number
ReadsField (U32 number) place bytes = number_at 4 place bytes ≡ number
ReadsField (U64 number) place bytes = number_at 8 place bytes ≡ number
ReadsField (Zeros count) place bytes = Unit {0}

-- the numbers of fields are read from a place on, one after the other
abbrev pub ReadsFields : List Field → ℕ → List ℕ → Type 0
ReadsFields [] place bytes = Unit {0}
ReadsFields (field ∷ fields) place bytes = ReadsField field place bytes × ReadsFields fields (place + width field) bytes

-- ---- a file record's header

-- the numbers of a row fit the fields of a header whose attributes have so many bytes
pub record FitsHeader (row : RowValue) (size : ℕ) : Type 0 where
  pub links : link_count row.attributes < 2 ^ 16
  pub flags : row.flags < 2 ^ 16
  pub in_use : 0x38 + size + 8 < 2 ^ 32
  pub base : base_reference row.base < 2 ^ 64
  pub count : length row.attributes < 2 ^ 16
  pub number : row.number < 2 ^ 32

-- the header of a row, whose attributes have so many bytes
pub record IsHeaderOf (row : RowValue) (size : ℕ) (bytes : List ℕ) : Type 0 where
  pub array_offset : recorded.array_offset bytes ≡ 0x30
  pub array_count : recorded.array_count bytes ≡ 3
  pub log_number : recorded.log_number_of bytes ≡ 0
  pub sequence : recorded.sequence_of bytes ≡ 1
  pub links : recorded.links_of bytes ≡ link_count row.attributes
  pub first_attribute : recorded.first_attribute_of bytes ≡ 0x38
  pub flags : recorded.flags_of bytes ≡ row.flags
  pub in_use : recorded.in_use_of bytes ≡ 0x38 + size + 8
  pub allocated : recorded.allocated_of bytes ≡ 1024
  pub base : recorded.base_of bytes ≡ base_reference row.base
  pub next_instance : recorded.next_instance_of bytes ≡ length row.attributes
  pub number : recorded.own_number_of bytes ≡ row.number

-- ---- attributes, by their own bytes

-- the numbers of a resident attribute fit its fields
pub record FitsResident (kind : ℕ) (name : List ℕ) (instance : ℕ) (value : List ℕ) : Type 0 where
  pub kind_fits : kind < 2 ^ 32
  pub name_fits : length name < 2 ^ 8
  pub instance_fits : instance < 2 ^ 16
  pub length_fits : 24 + length (with_padding (with_padding (utf16_bytes name) ++ value)) < 2 ^ 32
  pub value_fits : length value < 2 ^ 32
  pub offset_fits : 24 + length (with_padding (utf16_bytes name)) < 2 ^ 16

-- a resident attribute
pub record IsResidentOf (kind : ℕ) (name : List ℕ) (instance : ℕ) (value bytes : List ℕ) : Type 0 where
  pub kind_is : recorded.kind_at 0 bytes ≡ kind
  pub length_is : recorded.length_at 0 bytes ≡ 24 + length (with_padding (with_padding (utf16_bytes name) ++ value))
  pub residence : recorded.non_resident_at 0 bytes ≡ 0
  pub name_units : recorded.name_units_at 0 bytes ≡ length name
  pub name_offset : recorded.name_offset_at 0 bytes ≡ 24
  pub flags : recorded.attribute_flags_at 0 bytes ≡ 0
  pub instance_is : recorded.instance_at 0 bytes ≡ instance
  pub value_length : recorded.value_length_at 0 bytes ≡ length value
  pub value_offset : recorded.value_offset_at 0 bytes ≡ 24 + length (with_padding (utf16_bytes name))

-- the numbers of an attribute in clusters fit its fields
pub record FitsExtent (shape : Shape) (kind : ℕ) (name : List ℕ) (instance : ℕ) (extent : Extent) : Type 0 where
  pub kind_fits : kind < 2 ^ 32
  pub name_fits : length name < 2 ^ 8
  pub flags_fits : extent.flags < 2 ^ 16
  pub instance_fits : instance < 2 ^ 16
  pub length_fits : 64 + length (tail_bytes shape name extent) < 2 ^ 32
  pub lowest_fits : extent_lowest shape extent < 2 ^ 64
  pub highest_fits : (extent_next shape extent + (2 ^ 64 - 1)) % 2 ^ 64 < 2 ^ 64
  pub place_fits : pairs_place shape name extent < 2 ^ 16
  pub unit_fits : extent.unit < 2 ^ 16
  pub allocated_fits : allocated_size_of shape extent < 2 ^ 64
  pub size_fits : size_bytes shape extent.size < 2 ^ 64
  pub initialised_fits : size_bytes shape extent.initialised < 2 ^ 64

-- an attribute in clusters
pub record IsExtentOf (shape : Shape) (kind : ℕ) (name : List ℕ) (instance : ℕ) (extent : Extent) (bytes : List ℕ)
    : Type 0 where
  pub kind_is : recorded.kind_at 0 bytes ≡ kind
  pub length_is : recorded.length_at 0 bytes ≡ 64 + length (tail_bytes shape name extent)
  pub residence : recorded.non_resident_at 0 bytes ≡ 1
  pub name_units : recorded.name_units_at 0 bytes ≡ length name
  pub name_offset : recorded.name_offset_at 0 bytes ≡ 64
  pub flags : recorded.attribute_flags_at 0 bytes ≡ extent.flags
  pub instance_is : recorded.instance_at 0 bytes ≡ instance
  pub lowest : recorded.lowest_at 0 bytes ≡ extent_lowest shape extent
  pub highest : recorded.highest_at 0 bytes ≡ (extent_next shape extent + (2 ^ 64 - 1)) % 2 ^ 64
  pub pairs_offset : recorded.pairs_offset_at 0 bytes ≡ pairs_place shape name extent
  pub allocated : recorded.allocated_at 0 bytes ≡ allocated_size_of shape extent
  pub size : recorded.size_at 0 bytes ≡ size_bytes shape extent.size
  pub initialised : recorded.valid_at 0 bytes ≡ size_bytes shape extent.initialised

-- ---- entries of attribute lists

-- the numbers of an entry fit its fields
pub record FitsListEntry (shape : Shape) (entry : ListEntry) : Type 0 where
  pub kind : entry.kind < 2 ^ 32
  pub lowest : listed_lowest shape entry.lowest < 2 ^ 64
  pub number : reference entry.number < 2 ^ 64
  pub instance : entry.instance < 2 ^ 16

-- an entry of an attribute list
pub record IsListEntryOf (shape : Shape) (entry : ListEntry) (bytes : List ℕ) : Type 0 where
  pub kind : listed.entry_kind bytes ≡ entry.kind
  pub size : listed.list_entry_length bytes ≡ 32
  pub name_units : listed.entry_name_units bytes ≡ 0
  pub name_offset : listed.entry_name_offset bytes ≡ 26
  pub lowest : listed.entry_lowest bytes ≡ listed_lowest shape entry.lowest
  pub number : listed.entry_reference bytes ≡ reference entry.number
  pub instance : listed.entry_instance bytes ≡ entry.instance

-- ---- indexes

-- the lengths of a root fit its fields
abbrev pub FitsRoot : RootValue → Type 0
FitsRoot node = 16 + length (root_entries node) < 2 ^ 32

-- an index root
pub record IsRootOf (node : RootValue) (bytes : List ℕ) : Type 0 where
  pub kind : indexed.root_type bytes ≡ 0x30
  pub collation : indexed.collation_rule bytes ≡ 1
  pub block_size : indexed.index_block_size bytes ≡ 4096
  pub entries : indexed.entries_offset indexed.root_header bytes ≡ 16
  pub size : indexed.index_length indexed.root_header bytes ≡ 16 + length (root_entries node)

-- the numbers of an entry of a name fit its fields
pub record FitsEntry (number : ℕ) (file : NameValue) : Type 0 where
  pub file_fits : reference number < 2 ^ 64
  pub length_fits : 16 + length (with_padding (file_name_bytes file)) < 2 ^ 16
  pub key_fits : length (file_name_bytes file) < 2 ^ 16

-- an entry of a name
pub record IsEntryOf (number : ℕ) (file : NameValue) (bytes : List ℕ) : Type 0 where
  pub file_is : indexed.indexed_file bytes ≡ reference number
  pub length_is : indexed.index_entry_length bytes ≡ 16 + length (with_padding (file_name_bytes file))
  pub key_is : indexed.key_length bytes ≡ length (file_name_bytes file)
  pub flags : indexed.entry_flags bytes ≡ 0

-- ---- the boot sector

-- the numbers of a shape fit the boot sector's fields
pub record FitsBoot (shape : Shape) : Type 0 where
  pub cluster : shape.cluster / 512 < 2 ^ 8
  pub sector_count : sectors shape < 2 ^ 64
  pub mft : (area_at shape 1).start < 2 ^ 64
  pub mirror : (area_at shape 2).start < 2 ^ 64
  pub seed : shape.seed < 2 ^ 64

-- the boot sector of a shape
pub record IsBootOf (shape : Shape) (bytes : List ℕ) : Type 0 where
  pub oem_id : oem_id_of bytes ≡ ntfs_id
  pub bytes_per_sector : (fields_of bytes).bytes_per_sector ≡ 512
  pub sectors_per_cluster : (fields_of bytes).sectors_per_cluster ≡ shape.cluster / 512
  pub sector_count : (fields_of bytes).sectors ≡ sectors shape
  pub mft : (fields_of bytes).mft ≡ (area_at shape 1).start
  pub mirror : (fields_of bytes).mirror ≡ (area_at shape 2).start
  pub record_code : (fields_of bytes).record_code ≡ 0xF6
  pub block_code : (fields_of bytes).block_code ≡ 0xF4
  pub serial : (fields_of bytes).serial ≡ shape.seed
