-- The allocation of an index: the stream of its blocks (the Linux-NTFS documentation, "$INDEX_ALLOCATION"). The words
-- are ours.
use Rattle.std.specs.Prelude.{◌≤◌, ◌<◌, ◌^◌, ℕ, List, [], length, Option, Some, None, if◌then◌else◌}
use Rattle.ntfs_boot.specs.Geometry.{bytes_of_clusters}
use Rattle.ntfs_boot.specs.declared.geometry.Geometry.{Geometry}
use Rattle.ntfs_stream.specs.StreamBytes.{bytes_of_stream, filled_stream}
use Rattle.ntfs_volume.specs.Streams.{Gathered, IsReadable, Stream, value_stream}

-- an index without an allocation has no bytes in it
abbrev pub allocation_of : Option (Gathered ℕ) → Stream ℕ
allocation_of None = value_stream 0 []
allocation_of (Some found) = found.stream

-- the bytes of an allocation, in an image of this geometry
abbrev pub allocation_bytes : Geometry → List ℕ → Stream ℕ → List ℕ
allocation_bytes g image s = bytes_of_stream g.cluster (filled_stream g image s)

-- how many bytes it has
abbrev pub allocation_length : Stream ℕ → ℕ
allocation_length s = if s.is_resident then length s.value else s.size

-- an allocation can be read in an image of this length, on a volume of this geometry
pub record CanRead (size : ℕ) (g : Geometry) (s : Stream ℕ) : Type 0 where
  pub least : 512 ≤ g.cluster
  pub most : g.cluster ≤ 65536
  pub few : g.clusters < 2 ^ 32
  pub held : bytes_of_clusters g ≤ size
  pub readable : IsReadable g s
