-- $MFT's bitmap as the code reads it. The words are ours.
use Rattle.std.specs.Prelude.{ℕ, List, [], Option, Result}
use Rattle.std.specs.Option.{option_map}
use Rattle.std.specs.Result.{result_ok}
use Rattle.ntfs_rules.specs.Records.{bitmap_kind}
use Rattle.ntfs_rules.specs.VolumeData.{VolumeData, content_in}
use Rattle.ntfs_stream.specs.StreamBytes.{bytes_of_stream}
use Rattle.ntfs_volume.specs.Streams.{Gathered}
use Rattle.ntfs_volume.specs.declared.fault.VolumeFault.{VolumeFault}

-- the bytes of a stream, where it was gathered and a cluster has c bytes
abbrev pub bytes_if_found : ℕ → Result (Gathered (List ℕ)) VolumeFault → Option (List ℕ)
bytes_if_found c found = option_map (λ (s : Gathered (List ℕ)). bytes_of_stream c s.stream) (result_ok found)

-- those of $MFT's bitmap, where record 0 has one
abbrev pub marks_in : VolumeData → Option (List ℕ)
marks_in v = bytes_if_found v.geometry.cluster (content_in v 0 bitmap_kind [])
