-- Why a clone image wasn't read or restored, and where that comes from. The words are ours.
use Rattle.ntfs_base.specs.Frames.{Origin, content, reading, writing, memory}
use Rattle.ntfs_base.specs.declared.fault.PutFault.{PutFault}
use Rattle.ntfs_base.specs.declared.fault.PutFault.TheVariants as put
use Rattle.ntfs_clone.specs.declared.fault.CloneFault.{CloneFault}
use Rattle.ntfs_clone.specs.declared.fault.CloneFault.TheVariants as clone

-- where a refusal comes from
abbrev pub clone_origin : CloneFault → Origin
clone_origin (clone.BadClone place) = content
clone_origin (clone.Damaged rule number) = content
clone_origin clone.ReadFault = reading
clone_origin clone.WriteFault = writing
clone_origin clone.NoMemory = memory

-- a refusal of a file or of a sink
abbrev pub file_fault : PutFault → CloneFault
file_fault put.Failed = clone.WriteFault
file_fault put.NoMemory = clone.NoMemory

-- the clone image is wrong at some place
abbrev pub IsBad : CloneFault → Type 0
IsBad (clone.BadClone place) = Unit {0}
IsBad other = ⊥

-- the same, or a read failed
abbrev pub IsReadFault : CloneFault → Type 0
IsReadFault (clone.BadClone place) = Unit {0}
IsReadFault clone.ReadFault = Unit {0}
IsReadFault other = ⊥

-- the same, or memory was wanting: nothing is written
abbrev pub IsReadOnlyFault : CloneFault → Type 0
IsReadOnlyFault (clone.BadClone place) = Unit {0}
IsReadOnlyFault clone.ReadFault = Unit {0}
IsReadOnlyFault clone.NoMemory = Unit {0}
IsReadOnlyFault other = ⊥

-- a write failed, or memory was wanting
abbrev pub IsWriteFault : CloneFault → Type 0
IsWriteFault clone.WriteFault = Unit {0}
IsWriteFault clone.NoMemory = Unit {0}
IsWriteFault other = ⊥

-- a read or a write of a file failed
abbrev pub IsFileFault : CloneFault → Type 0
IsFileFault clone.ReadFault = Unit {0}
IsFileFault clone.WriteFault = Unit {0}
IsFileFault other = ⊥

-- a read of the volume or a put failed, or memory was wanting
abbrev pub IsSaveFault : CloneFault → Type 0
IsSaveFault clone.ReadFault = Unit {0}
IsSaveFault clone.WriteFault = Unit {0}
IsSaveFault clone.NoMemory = Unit {0}
IsSaveFault other = ⊥

-- any but what a checked volume has: a restore reads none
abbrev pub IsRestoreFault : CloneFault → Type 0
IsRestoreFault (clone.Damaged rule number) = ⊥
IsRestoreFault other = Unit {0}
