-- The record that a request means, by its number or its path in the volume.
use Rattle.std.specs.Prelude.{ℕ, List, Result, Ok}
use Rattle.ntfs_base.specs.Frames.{refused_as}
use Rattle.ntfs_directory.specs.Paths.{path_of}
use Rattle.ntfs_volume.specs.Opened.{Opened}
use Rattle.ntfs_words.specs.declared.request.Target.{Target}
use Rattle.ntfs_words.specs.declared.request.Target.TheVariants as target
use Rattle.ntfs_run.specs.Outcome.{path_status}
use Rattle.ntfs_run.specs.declared.status.Status.{Status}
use Rattle.ntfs_run.specs.declared.status.Status.TheVariants as status

-- the number of the record that a path names in a volume, whose image has these bytes
unfoldable pub path_number : List ℕ → Opened → List ℕ → Result ℕ Status
path_number path volume image = refused_as path_status (path_of volume.geometry volume.map image path)

-- and of the record that is meant
abbrev pub number_meant : Target → Opened → List ℕ → Result ℕ Status
number_meant (target.Number number) volume image = Ok number
number_meant (target.Path path) volume image = path_number path volume image

-- the refusals to tell it
abbrev pub IsUnmeant : Status → Type 0
IsUnmeant (status.NotFound what) = Unit {0}
IsUnmeant (status.Damaged rule number) = Unit {0}
IsUnmeant status.ReadFault = Unit {0}
IsUnmeant status.NoMemory = Unit {0}
IsUnmeant other = ⊥
