-- Refusals of a volume, and where they come from. The words are ours.
use Rattle.ntfs_base.specs.Frames.{Origin, content, reading, writing, memory}
use Rattle.ntfs_boot.specs.declared.volume.ImageFault.{ImageFault}
use Rattle.ntfs_boot.specs.declared.volume.ImageFault.TheVariants as image
use Rattle.ntfs_volume.specs.declared.fault.VolumeFault.{VolumeFault}
use Rattle.ntfs_volume.specs.declared.fault.VolumeFault.TheVariants as volume

-- a refusal of the image's geometry
abbrev pub volume_fault : ImageFault → VolumeFault
volume_fault image.NotNtfs = volume.NotNtfs
volume_fault (image.BadGeometry field value) = volume.BadGeometry field value
volume_fault (image.ImageShort len need) = volume.ImageShort len need
volume_fault image.ReadFault = volume.ReadFault

-- where a refusal comes from
abbrev pub volume_origin : VolumeFault → Origin
volume_origin volume.ReadFault = reading
volume_origin volume.WriteFault = writing
volume_origin volume.NoMemory = memory
volume_origin other = content
