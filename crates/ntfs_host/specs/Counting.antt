-- Which refusal stands for an error of the system, and how it is counted. The words are ours.
use Rattle.std.specs.Prelude.{Bool, if◌then◌else◌}
use Rattle.std.specs.declared.io.ErrorKind.{ErrorKind}
use Rattle.std.specs.declared.io.ErrorKind.TheVariants as kind
use Rattle.ntfs_base.specs.Calls.{one_more}
use Rattle.ntfs_base.specs.declared.fault.Faults.{Faults}
use Rattle.ntfs_base.specs.declared.fault.ShelfFault.{ShelfFault}
use Rattle.ntfs_base.specs.declared.fault.ShelfFault.TheVariants as fault

-- the refusal that stands for an error of the system
abbrev pub refusal_of : ErrorKind → ShelfFault
refusal_of kind.NotFound = fault.Absent
refusal_of kind.OutOfMemory = fault.NoMemory
refusal_of _ = fault.Failed

-- the counts after a refusal: one read fault more where the call failed, else as many as before
abbrev pub faults_after : ShelfFault → Faults → Faults
faults_after fault.Failed old = record old { reads = one_more old.reads }
faults_after fault.Absent old = old
faults_after fault.Present old = old
faults_after fault.NoMemory old = old

-- the refusal that stands for an error of the system where a file was to be made
abbrev pub create_refusal_of : Bool → ErrorKind → ShelfFault
create_refusal_of must_be_new kind.AlreadyExists = if must_be_new then fault.Present else fault.Failed
create_refusal_of must_be_new kind.OutOfMemory = fault.NoMemory
create_refusal_of must_be_new _ = fault.Failed

-- the counts after a file wasn't made: one write fault more where the call failed, else as many as before
abbrev pub faults_after_create : ShelfFault → Faults → Faults
faults_after_create fault.Failed old = record old { writes = one_more old.writes }
faults_after_create fault.Absent old = old
faults_after_create fault.Present old = old
faults_after_create fault.NoMemory old = old
