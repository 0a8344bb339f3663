-- What the stream of a record puts: the bytes of the stream that is gathered, or the refusal (the Linux-NTFS
-- documentation, "$ATTRIBUTE_LIST" and "Attribute Header"; the refusals and their order are ours).
use Rattle.std.specs.Prelude.{ℕ, List, Result}
use Rattle.ntfs_base.specs.Bytes.{cluster_at}
use Rattle.ntfs_base.specs.Frames.{refused_as, ◌>>=◌}
use Rattle.ntfs_boot.specs.declared.geometry.Geometry.{Geometry}
use Rattle.ntfs_stream.specs.StreamBytes.{stream_outcome}
use Rattle.ntfs_volume.specs.Opened.{Opened}
use Rattle.ntfs_volume.specs.Streams.{Gathered, Stream, gather_of}
use Rattle.ntfs_print.specs.Fault.{gather_refusal, stream_refusal}
use Rattle.ntfs_print.specs.declared.fault.ShowFault.{ShowFault}

-- the stream of this type and name of record r of an opened volume
abbrev pub gathered_stream : Opened → List ℕ → ℕ → ℕ → List ℕ → Result (Gathered ℕ) ShowFault
gathered_stream v image r kind name =
    refused_as (gather_refusal r) (gather_of v.geometry v.map (cluster_at image v.geometry.cluster) r kind name)

-- the bytes of a stream
abbrev pub printed_bytes : Geometry → List ℕ → Stream ℕ → Result (List ℕ) ShowFault
printed_bytes g image s = refused_as stream_refusal (stream_outcome g image s)

-- the bytes of the stream of this type and name of record r of an opened volume
unfoldable pub cat_outcome : Opened → List ℕ → ℕ → ℕ → List ℕ → Result (List ℕ) ShowFault
cat_outcome v image r kind name = do
  found ← gathered_stream v image r kind name
  printed_bytes v.geometry image found.stream
