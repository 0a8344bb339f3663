-- The bytes of a stream: the value of a resident one, or the first bytes of its clusters, with zeros in holes and from
-- the initialised size on (the Linux-NTFS documentation, "$DATA" and "Attribute Header"; the words are ours).
use Rattle.std.specs.Prelude.{◌≡◌, ◌≤◌, ◌/◌, ◌%◌, ◌==◌, ◌&&◌, ℕ, Bool, List, Result, Ok, if◌then◌else◌}
use Rattle.ntfs_base.specs.Bytes.{cluster_at}
use Rattle.ntfs_base.specs.Frames.{must, ◌>>=◌}
use Rattle.ntfs_boot.specs.declared.geometry.Geometry.{Geometry}
use Rattle.ntfs_stream.specs.declared.fault.StreamFault.{StreamFault}
use Rattle.ntfs_stream.specs.declared.fault.StreamFault.TheVariants.{NotPlain}
use Rattle.ntfs_volume.specs.StreamBytes.{runs_bytes}
use Rattle.ntfs_volume.specs.Streams.{Stream, map_stream}

-- the flags of a stream that is neither compressed nor encrypted: a low byte of 0, and no 0x4000
unfoldable pub is_plain : ℕ → Bool
is_plain flags = (flags % 256 == 0) && (flags / 0x4000 % 2 == 0)

-- the bytes of a stream whose clusters have c bytes
unfoldable pub bytes_of_stream : ℕ → Stream (List ℕ) → List ℕ
bytes_of_stream c s = if s.is_resident then s.value else runs_bytes c s.size s.valid s.cells

-- the stream with the bytes of its clusters
abbrev pub filled_stream : Geometry → List ℕ → Stream ℕ → Stream (List ℕ)
filled_stream g image s = map_stream (cluster_at image g.cluster) s

-- the bytes of a plain stream; another one is refused
unfoldable pub stream_outcome : Geometry → List ℕ → Stream ℕ → Result (List ℕ) StreamFault
stream_outcome g image s = do
  _ ← must (is_plain s.flags) (NotPlain s.flags)
  Ok (bytes_of_stream g.cluster (filled_stream g image s))

-- the length of a buffer that can be handed in, where a cluster has c bytes: whole clusters, and at least one
pub record IsBuffer (c len : ℕ) : Type 0 where
  pub least : c ≤ len
  pub whole : len % c ≡ 0
