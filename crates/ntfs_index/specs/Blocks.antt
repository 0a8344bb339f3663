-- The blocks of an index as contracts see them: a finite map from VCNs to blocks, all of one size, and how the bytes of
-- an allocation give such a map (the Linux-NTFS documentation, "$INDEX_ALLOCATION" and "Index Record"; the words are
-- ours).
use Rattle.std.specs.Prelude.{◌≡◌, ◌+◌, ◌*◌, ◌%◌, ◌≤◌, ℕ, Bool, List, length, Option, Some, None, IsTrue, nat_le, if◌then◌else◌}
use Rattle.ntfs_base.specs.Bytes.{piece_at}
use Rattle.ntfs_base.specs.Image.{ImageState}

-- the block of each VCN, as it stands in the allocation: with its fixups
abbrev pub BlockMap : Type 0
BlockMap = ℕ → Option (List ℕ)

pub record BlocksState : Type 0 where
  -- whether the map is told
  pub is_told : Bool
  -- the map, where it is told
  pub blocks : BlockMap
  -- the size of each block in bytes, which is always told
  pub size : ℕ
  -- of blocks that are read from an image, the image as it is seen; elsewhere nothing
  pub footing : Option ImageState

-- a map that is told is finite: it has no block from some VCN on; and all its blocks have the told size
pub record IsSized (state : BlocksState) : Type 0 where
  pub finite : IsTrue state.is_told → (bound : ℕ) × ((vcn : ℕ) → bound ≤ vcn → state.blocks vcn ≡ None)
  pub sizes : IsTrue state.is_told → (vcn : ℕ) (block : List ℕ) → state.blocks vcn ≡ Some block
      → length block ≡ state.size

-- the sizes of an index block: whole strides of 512 bytes, two at least and 128 at most; those of a boot sector are
-- such
pub record IsBlockSize (size : ℕ) : Type 0 where
  pub whole : size % 512 ≡ 0
  pub least : 1024 ≤ size
  pub most : size ≤ 65536

-- the bytes that one VCN counts: a cluster where it isn't larger than a block, else a sector of 512 bytes ("Index
-- Record")
unfoldable pub vcn_unit : ℕ → ℕ → ℕ
vcn_unit cluster size = if nat_le cluster size then cluster else 512

-- the block of a VCN in the bytes of an allocation, where it lies wholly in them
unfoldable pub blocks_of : ℕ → ℕ → List ℕ → BlockMap
blocks_of unit size bytes vcn =
    if nat_le (vcn * unit + size) (length bytes) then Some (piece_at (vcn * unit) size bytes) else None

-- the blocks of an allocation on a volume of this cluster and block size
abbrev pub allocation_blocks : ℕ → ℕ → List ℕ → BlockMap
allocation_blocks cluster size bytes = blocks_of (vcn_unit cluster size) size bytes
