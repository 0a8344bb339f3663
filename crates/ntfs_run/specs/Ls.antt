-- `ntfsls`: the entries of a directory.
use Rattle.std.specs.Prelude.{ℕ, List, [], Option, Some, None}
use Rattle.ntfs_base.specs.declared.refusal.Named.TheVariants as named
use Rattle.ntfs_show.specs.ListPath.{list_outcome}
use Rattle.ntfs_print.specs.Printing.{Printing}
use Rattle.ntfs_show.specs.declared.list_options.ListOptions.{ListOptions}
use Rattle.ntfs_volume.specs.Opened.{Opened}
use Rattle.ntfs_run.specs.Shown.{with_status}
use Rattle.ntfs_run.specs.declared.status.Status.{Status}
use Rattle.ntfs_run.specs.declared.status.Status.TheVariants as status

-- the path of the directory, which is the root where none is given
abbrev pub path_or_root : Option (List ℕ) → List ℕ
path_or_root None = []
path_or_root (Some path) = path

-- the lines for a volume, whose image has these bytes
unfoldable pub list_lines : ListOptions → Option (List ℕ) → Opened → List ℕ → Printing Status
list_lines options path volume image = with_status (list_outcome options volume image (path_or_root path))

-- the refusals of the tool, once its words are taken
abbrev pub ListRefuses : Status → Type 0
ListRefuses (status.Absent named.Image) = Unit {0}
ListRefuses status.NotNtfs = Unit {0}
ListRefuses (status.BadGeometry field value) = Unit {0}
ListRefuses (status.ImageShort len need) = Unit {0}
ListRefuses (status.Damaged rule number) = Unit {0}
ListRefuses (status.NotFound what) = Unit {0}
ListRefuses (status.NotPlain flags) = Unit {0}
ListRefuses status.ReadFault = Unit {0}
ListRefuses status.WriteFault = Unit {0}
ListRefuses status.NoMemory = Unit {0}
ListRefuses other = ⊥
