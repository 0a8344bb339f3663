-- Why a directory isn't walked, and where that comes from. The words are ours.
use Rattle.std.specs.Prelude.{ℕ}
use Rattle.ntfs_base.specs.Frames.{Origin, reading}
use Rattle.ntfs_base.specs.declared.fault.Failed.{Failed}
use Rattle.ntfs_base.specs.declared.refusal.Rule.TheVariants as rule
use Rattle.ntfs_index.specs.declared.fault.IndexFault.{IndexFault}
use Rattle.ntfs_index.specs.declared.fault.IndexFault.TheVariants as index
use Rattle.ntfs_volume.specs.declared.fault.VolumeFault.{VolumeFault}
use Rattle.ntfs_volume.specs.declared.fault.VolumeFault.TheVariants as volume

-- the index of directory d can't be walked
abbrev pub unwalkable : ℕ → VolumeFault
unwalkable d = volume.Damaged rule.C13 d

-- an entry of directory d names no record that it may
abbrev pub bad_entry : ℕ → VolumeFault
bad_entry d = volume.Damaged rule.C14 d

-- a refusal of the record that an entry of directory d names
abbrev pub entry_refusal : ℕ → VolumeFault → VolumeFault
entry_refusal d volume.Absent = bad_entry d
entry_refusal d other = other

-- a fault of the walk of directory d, as one of the volume
abbrev pub directory_fault : ℕ → IndexFault → VolumeFault
directory_fault d (index.BadNode vcn rule) = unwalkable d
directory_fault d index.TooDeep = unwalkable d
directory_fault d index.BlockFault = volume.ReadFault
directory_fault d index.NoMemory = volume.NoMemory

-- a read that failed comes from the read
abbrev pub failed_origin : Failed → Origin
failed_origin failed = reading
