-- The fields of an index, under the names of the public layout, with their places in bytes and their units (the
-- Linux-NTFS documentation, "$INDEX_ROOT", "Index Header" and "Index Record"; an entry under "Directory"). A field
-- whose bytes end too early reads as if zeros followed.
use Rattle.std.specs.Prelude.{◌+◌, ◌-◌, ℕ, List}
use Rattle.ntfs_base.specs.Bytes.{number_at}

-- ---- INDEX_ROOT, the value of $INDEX_ROOT, by its bytes

-- type, 4 bytes at 0x00: the kind of the attribute that is the key of each entry
abbrev pub root_type : List ℕ → ℕ
root_type root = number_at 4 0x00 root

-- collation_rule, 4 bytes at 0x04
abbrev pub collation_rule : List ℕ → ℕ
collation_rule root = number_at 4 0x04 root

-- index_block_size, 4 bytes at 0x08, in bytes; clusters_per_index_block follows in 1 byte at 0x0C and tells nothing new
abbrev pub index_block_size : List ℕ → ℕ
index_block_size root = number_at 4 0x08 root

-- where a root's INDEX_HEADER begins
abbrev pub root_header : ℕ
root_header = 0x10

-- ---- INDEX_BLOCK, a block of $INDEX_ALLOCATION, by its unfixed bytes: magic, 4 bytes at 0x00, usa_ofs and usa_count,
-- 2 bytes each at 0x04 and 0x06, are those of fixups; lsn has 8 bytes at 0x08

-- index_block_vcn, 8 bytes at 0x10, in units of `Blocks.vcn_unit`: the block's own VCN
abbrev pub index_block_vcn : List ℕ → ℕ
index_block_vcn block = number_at 8 0x10 block

-- where a block's INDEX_HEADER begins
abbrev pub block_header : ℕ
block_header = 0x18

-- ---- INDEX_HEADER, by the bytes of the root or block and its place in them: allocated_size, 4 bytes at 0x08, and
-- flags, 1 byte at 0x0C, play no part in a walk

-- entries_offset, 4 bytes at 0x00, in bytes from the header on: where the first entry begins
abbrev pub entries_offset : ℕ → List ℕ → ℕ
entries_offset header bytes = number_at 4 header bytes

-- index_length, 4 bytes at 0x04, in bytes from the header on: where the last entry ends
abbrev pub index_length : ℕ → List ℕ → ℕ
index_length header bytes = number_at 4 (header + 0x04) bytes

-- ---- INDEX_ENTRY, by the bytes from its first on

-- indexed_file, 8 bytes at 0x00: the reference of the file that the key names
abbrev pub indexed_file : List ℕ → ℕ
indexed_file entry = number_at 8 0x00 entry

-- length, 2 bytes at 0x08, in bytes: of the whole entry
abbrev pub index_entry_length : List ℕ → ℕ
index_entry_length entry = number_at 2 0x08 entry

-- key_length, 2 bytes at 0x0A, in bytes
abbrev pub key_length : List ℕ → ℕ
key_length entry = number_at 2 0x0A entry

-- flags, 2 bytes at 0x0C: 1 the entry has a child, 2 it ends the node
abbrev pub entry_flags : List ℕ → ℕ
entry_flags entry = number_at 2 0x0C entry

-- file_name_length of the key, which begins at 0x10 and is a $FILE_NAME: 1 byte at 0x40 of it, in units of 2 bytes
abbrev pub file_name_length : List ℕ → ℕ
file_name_length entry = number_at 1 0x50 entry

-- the child's VCN, the last 8 bytes of an entry that has a child, in units of `Blocks.vcn_unit`
abbrev pub child_vcn : List ℕ → ℕ
child_vcn entry = number_at 8 (index_entry_length entry - 8) entry
