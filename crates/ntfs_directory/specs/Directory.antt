-- The index of a directory as finite data, and the walk of it: its entries in order, and the fault at its end (the
-- Linux-NTFS documentation, "Directory", "$INDEX_ROOT" and "$INDEX_ALLOCATION"; the refusals and their order are ours).
use Rattle.std.specs.Prelude.{ℕ, List, [], ◌∷◌, Option, Some, None, Result, Ok, Err, if◌then◌else◌}
use Rattle.std.specs.Option.{option_map}
use Rattle.ntfs_base.specs.Bytes.{cluster_at}
use Rattle.ntfs_base.specs.Frames.{refused_as, ◌>>=◌}
use Rattle.ntfs_boot.specs.declared.geometry.Geometry.{Geometry}
use Rattle.ntfs_directory.specs.Allocation.{allocation_bytes, allocation_of}
use Rattle.ntfs_directory.specs.Fault.{directory_fault, unwalkable}
use Rattle.ntfs_index.specs.Node.{IndexEntry, root_node}
use Rattle.ntfs_index.specs.Walk.{Listing, listing, walk_allocation}
use Rattle.ntfs_volume.specs.MftMap.{Map}
use Rattle.ntfs_volume.specs.Streams.{Gathered, Stream, gather_of}
use Rattle.ntfs_volume.specs.declared.fault.VolumeFault.{VolumeFault}
use Rattle.ntfs_volume.specs.declared.fault.VolumeFault.TheVariants as volume

-- the name of the attributes that are a directory's index, `$I30` in UTF-16LE
abbrev pub index_name : List ℕ
index_name = 0x24 ∷ 0x00 ∷ 0x49 ∷ 0x00 ∷ 0x33 ∷ 0x00 ∷ 0x30 ∷ 0x00 ∷ []

-- the type of $INDEX_ROOT
abbrev pub root_kind : ℕ
root_kind = 0x90

-- the type of $INDEX_ALLOCATION
abbrev pub allocation_kind : ℕ
allocation_kind = 0xA0

-- ---- the index

-- the value of the index root and the stream of the index blocks
pub record DirectoryIndex : Type 0 where
  pub root : List ℕ
  pub allocation : Stream ℕ

-- the value of the root that was gathered of directory d, which must be there and be resident
abbrev pub index_root_value : ℕ → Result (Gathered ℕ) VolumeFault → Result (List ℕ) VolumeFault
index_root_value d (Ok found) = if found.stream.is_resident then Ok found.stream.value else Err (unwalkable d)
index_root_value d (Err volume.NoAttribute) = Err (unwalkable d)
index_root_value d (Err fault) = Err fault

-- the allocation that was gathered, which may be missing
abbrev pub allocation_found : Result (Gathered ℕ) VolumeFault → Result (Stream ℕ) VolumeFault
allocation_found (Ok found) = Ok (allocation_of (Some found))
allocation_found (Err volume.NoAttribute) = Ok (allocation_of None)
allocation_found (Err fault) = Err fault

-- the index of directory d of a volume with this map, of which f gives the bytes of each cluster
unfoldable pub directory_index : Geometry → Map → (ℕ → List ℕ) → ℕ → Result DirectoryIndex VolumeFault
directory_index g map f d = do
  root ← index_root_value d (gather_of g map f d root_kind index_name)
  allocation ← allocation_found (gather_of g map f d allocation_kind index_name)
  Ok (record { root = root; allocation = allocation })

-- ---- its walk

-- what the walk of a directory shows: its entries, and the fault at its end; none where it is whole
pub record DirectoryWalk : Type 0 where
  pub entries : List IndexEntry
  pub fault : Option VolumeFault

-- nothing but a fault
abbrev pub only_refused : VolumeFault → DirectoryWalk
only_refused fault = record { entries = []; fault = Some fault }

-- the walk of an index as that of directory d
abbrev pub walk_in : ℕ → Listing → DirectoryWalk
walk_in d shown = record { entries = shown.entries; fault = option_map (directory_fault d) shown.fault }

-- the walk of this index of directory d, in an image
unfoldable pub index_walk : Geometry → List ℕ → ℕ → DirectoryIndex → DirectoryWalk
index_walk g image d index =
    walk_in d (listing (walk_allocation g.cluster g.block index.root (allocation_bytes g image index.allocation)))

-- the walk of an index, or nothing but the fault by which there is none
abbrev pub walk_found : Geometry → List ℕ → ℕ → Result DirectoryIndex VolumeFault → DirectoryWalk
walk_found g image d (Ok index) = index_walk g image d index
walk_found g image d (Err fault) = only_refused fault

-- the walk of directory d of a volume with this map
unfoldable pub directory_walk : Geometry → Map → List ℕ → ℕ → DirectoryWalk
directory_walk g map image d = walk_found g image d (directory_index g map (cluster_at image g.cluster) d)

-- the same walk as it begins: it is refused where there is no index, or its root can't be entered
unfoldable pub begun_walk : Geometry → Map → List ℕ → ℕ → Result DirectoryWalk VolumeFault
begun_walk g map image d = do
  index ← directory_index g map (cluster_at image g.cluster) d
  _ ← refused_as (directory_fault d) (root_node g.block index.root)
  Ok (index_walk g image d index)
