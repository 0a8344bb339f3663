-- Why a printing call has failed. The words are ours.
use Rattle.std.specs.Prelude.{ℕ}
use Rattle.ntfs_base.specs.Frames.{Origin, content, reading, writing, memory}
use Rattle.ntfs_base.specs.declared.fault.PutFault.{PutFault}
use Rattle.ntfs_base.specs.declared.fault.PutFault.TheVariants as put
use Rattle.ntfs_base.specs.declared.refusal.Missing.TheVariants as missing
use Rattle.ntfs_base.specs.declared.refusal.Rule.TheVariants as rule
use Rattle.ntfs_directory.specs.declared.path_fault.PathFault.{PathFault}
use Rattle.ntfs_directory.specs.declared.path_fault.PathFault.TheVariants as path
use Rattle.ntfs_stream.specs.declared.fault.StreamFault.{StreamFault}
use Rattle.ntfs_stream.specs.declared.fault.StreamFault.TheVariants as stream
use Rattle.ntfs_volume.specs.declared.fault.VolumeFault.{VolumeFault}
use Rattle.ntfs_volume.specs.declared.fault.VolumeFault.TheVariants as volume
use Rattle.ntfs_print.specs.declared.fault.ShowFault.{ShowFault}
use Rattle.ntfs_print.specs.declared.fault.ShowFault.TheVariants as show

-- a refusal of the sink, as a printing call answers it
abbrev pub show_fault : PutFault → ShowFault
show_fault put.Failed = show.WriteFault
show_fault put.NoMemory = show.NoMemory

-- a refusal of the bytes of a stream
abbrev pub stream_refusal : StreamFault → ShowFault
stream_refusal (stream.NotPlain flags) = show.NotPlain flags
stream_refusal stream.ReadFault = show.ReadFault
stream_refusal stream.WriteFault = show.WriteFault
stream_refusal stream.NoMemory = show.NoMemory

-- a refusal of a path
abbrev pub path_refusal : PathFault → ShowFault
path_refusal (path.NotFound what) = show.NotFound what
path_refusal (path.Damaged rule number) = show.Damaged rule number
path_refusal path.ReadFault = show.ReadFault
path_refusal path.NoMemory = show.NoMemory

-- a refusal of the gathering of a stream of record r. The first three are refusals of an image that isn't opened, which
-- no gathering gives; they stand as damage of the boot sector, and of the image's length
abbrev pub gather_refusal : ℕ → VolumeFault → ShowFault
gather_refusal r volume.NotNtfs = show.Damaged rule.C1 0
gather_refusal r (volume.BadGeometry field value) = show.Damaged rule.C1 0
gather_refusal r (volume.ImageShort len need) = show.Damaged rule.C2 0
gather_refusal r (volume.Damaged rule number) = show.Damaged rule number
gather_refusal r volume.Absent = show.NotFound (missing.Record r)
gather_refusal r volume.NoAttribute = show.NotFound missing.Stream
gather_refusal r volume.ReadFault = show.ReadFault
gather_refusal r volume.WriteFault = show.WriteFault
gather_refusal r volume.NoMemory = show.NoMemory

-- where a refusal comes from
abbrev pub show_origin : ShowFault → Origin
show_origin show.ReadFault = reading
show_origin show.WriteFault = writing
show_origin show.NoMemory = memory
show_origin other = content
