-- The exit status of the program for each status. The numbers are this project's own.
use Rattle.std.specs.Prelude.{ℕ}
use Rattle.ntfs_run.specs.declared.status.Status.{Status}
use Rattle.ntfs_run.specs.declared.status.Status.TheVariants as status

abbrev pub code_of : Status → ℕ
code_of status.Done = 0
code_of (status.Usage kind) = 1
code_of (status.Absent file) = 2
code_of (status.Present file) = 2
code_of status.NotNtfs = 3
code_of (status.BadGeometry field value) = 3
code_of (status.ImageShort len need) = 3
code_of (status.Damaged rule number) = 4
code_of status.Dirty = 5
code_of (status.ShortClusters need free) = 6
code_of (status.ShortRun need longest) = 6
code_of (status.ShortRoom number need have) = 6
code_of (status.ShortGeometry lack have need) = 6
code_of (status.NotFound what) = 7
code_of (status.NotPlain flags) = 8
code_of (status.Guarded number kind) = 8
code_of (status.TooLong have want) = 8
code_of (status.BadClone place) = 9
code_of status.ReadFault = 10
code_of status.WriteFault = 11
code_of status.NoMemory = 12
code_of (status.CannotMend rule number) = 13
