-- Index entries, index roots and the block of the root's index (the Linux-NTFS documentation, "Index Record",
-- "$INDEX_ROOT", "$FILE_NAME"). The names at the fields are those of the layout; a field's place counts from the
-- front of its list. The words are ours.
use Rattle.std.specs.Prelude.{◌+◌, ◌-◌, ◌/◌, ◌^◌, ℕ, List, [], ◌∷◌, ◌++◌, length, flat_map, nat_le, if◌then◌else◌}
use Rattle.ntfs_fixup.specs.Fixups.{refix_of}
use Rattle.ntfs_make.specs.declared.shape.Shape.{Shape}
use Rattle.ntfs_make.specs.declared.field.Field.TheVariants.{U8, U16, U32, U64, Zeros}
use Rattle.ntfs_make.specs.Fields.{fields_bytes, with_padding, with_length, utf16_bytes}
use Rattle.ntfs_make.specs.Table.{NameValue, RootValue, ChildRoot, EmptyRoot, OneRoot, RootNameValue}
use Rattle.ntfs_make.specs.RootNames.{root_names}

-- the reference of a record whose sequence number is 1
abbrev pub reference : ℕ → ℕ
reference number = number + 2 ^ 48

-- a file name, the value of $FILE_NAME and the key of an entry
unfoldable pub file_name_bytes : NameValue → List ℕ
file_name_bytes file =
    fields_bytes (
    U64 (reference file.parent)  -- 0x00 parent_directory
    ∷ Zeros 32  -- 0x08 creation_time, last_data_change_time, last_mft_change_time, last_access_time
    ∷ U64 0  -- 0x28 allocated_size
    ∷ U64 0  -- 0x30 data_size
    ∷ U32 0  -- 0x38 file_attributes
    ∷ U32 0  -- 0x3C packed_ea_size
    ∷ U8 (length file.letters)  -- 0x40 file_name_length
    ∷ U8 file.space  -- 0x41 file_name_type
    ∷ [])
    ++ utf16_bytes file.letters  -- 0x42 file_name

-- an entry of a name
unfoldable pub entry_bytes : ℕ → NameValue → List ℕ
entry_bytes number file =
    fields_bytes (
    U64 (reference number)  -- 0x00 indexed_file
    ∷ U16 (16 + length (with_padding (file_name_bytes file)))  -- 0x08 length
    ∷ U16 (length (file_name_bytes file))  -- 0x0A key_length
    ∷ U16 0  -- 0x0C flags
    ∷ U16 0  -- 0x0E reserved
    ∷ [])
    ++ with_padding (file_name_bytes file)  -- 0x10 key

-- the end of a node, with the flag of an end
unfoldable pub end_bytes : List ℕ
end_bytes =
    fields_bytes (
    U64 0  -- 0x00 indexed_file
    ∷ U16 16  -- 0x08 length
    ∷ U16 0  -- 0x0A key_length
    ∷ U16 2  -- 0x0C flags
    ∷ U16 0  -- 0x0E reserved
    ∷ [])

-- the end of a node with the child 0, with the flags of a child and of an end
unfoldable pub child_bytes : List ℕ
child_bytes =
    fields_bytes (
    U64 0  -- 0x00 indexed_file
    ∷ U16 24  -- 0x08 length
    ∷ U16 0  -- 0x0A key_length
    ∷ U16 3  -- 0x0C flags
    ∷ U16 0  -- 0x0E reserved
    ∷ U64 0  -- 0x10 vcn
    ∷ [])

-- the entries of a root
unfoldable pub root_entries : RootValue → List ℕ
root_entries ChildRoot = child_bytes
root_entries EmptyRoot = end_bytes
root_entries (OneRoot number file) = entry_bytes number file ++ end_bytes

-- 1 where the node has a child
unfoldable pub flag_of : RootValue → ℕ
flag_of ChildRoot = 1
flag_of EmptyRoot = 0
flag_of (OneRoot number file) = 0

-- how many clusters a block of 4,096 bytes has, or, where a cluster is larger, how many pieces of 512 bytes
unfoldable pub clusters_per_block : ℕ → ℕ
clusters_per_block cluster = if nat_le cluster 4096 then 4096 / cluster else 4096 / 512

-- an index root, with the header of its node at 0x10
unfoldable pub root_bytes : Shape → RootValue → List ℕ
root_bytes shape node =
    fields_bytes (
    U32 0x30  -- 0x00 type
    ∷ U32 1  -- 0x04 collation_rule
    ∷ U32 4096  -- 0x08 index_block_size
    ∷ U8 (clusters_per_block shape.cluster)  -- 0x0C clusters_per_index_block
    ∷ Zeros 3  -- 0x0D reserved
    ∷ U32 16  -- 0x10 entries_offset
    ∷ U32 (16 + length (root_entries node))  -- 0x14 index_length
    ∷ U32 (16 + length (root_entries node))  -- 0x18 allocated_size
    ∷ U8 (flag_of node)  -- 0x1C flags
    ∷ Zeros 3  -- 0x1D reserved
    ∷ [])
    ++ root_entries node  -- 0x20

-- the entries of these names, and the end
unfoldable pub entries_of : List RootNameValue → List ℕ
entries_of some = flat_map (λ each. entry_bytes each.number each.name) some ++ end_bytes

-- the block before its fixups, with the header of its node at 0x18
unfoldable pub index_text : List ℕ
index_text =
    fields_bytes (
    U32 0x58444E49  -- 0x00 magic
    ∷ U16 0x28  -- 0x04 usa_ofs
    ∷ U16 9  -- 0x06 usa_count
    ∷ U64 0  -- 0x08 lsn
    ∷ U64 0  -- 0x10 index_block_vcn
    ∷ U32 0x28  -- 0x18 entries_offset
    ∷ U32 (0x28 + length (entries_of root_names))  -- 0x1C index_length
    ∷ U32 (4096 - 0x18)  -- 0x20 allocated_size
    ∷ U8 0  -- 0x24 flags
    ∷ Zeros 3  -- 0x25 reserved
    ∷ Zeros 0x18  -- 0x28 the update sequence array, up to the entries
    ∷ [])
    ++ entries_of root_names  -- 0x40

-- the block, with the fixup number 1
unfoldable pub index_block : List ℕ
index_block = refix_of (with_length 4096 index_text)
