-- `ntfsinfo`: the geometry of an image in nine lines, or a record and its attributes.
use Rattle.std.specs.Prelude.{ℕ, List, Result, Ok}
use Rattle.ntfs_base.specs.Frames.{refused_as, ◌>>=◌}
use Rattle.ntfs_base.specs.declared.refusal.Named.TheVariants as named
use Rattle.ntfs_boot.specs.Geometry.{volume_geometry}
use Rattle.ntfs_show.specs.Info.{info_lines}
use Rattle.ntfs_print.specs.Printing.{Printing}
use Rattle.ntfs_show.specs.RecordInfo.{record_printing}
use Rattle.ntfs_volume.specs.Opened.{Opened}
use Rattle.ntfs_run.specs.Outcome.{image_status}
use Rattle.ntfs_run.specs.Shown.{with_status}
use Rattle.ntfs_run.specs.declared.status.Status.{Status}
use Rattle.ntfs_run.specs.declared.status.Status.TheVariants as status

-- the lines for an image
unfoldable pub image_lines : List ℕ → Result (List ℕ) Status
image_lines image = do
  geometry ← refused_as image_status (volume_geometry image)
  Ok (info_lines geometry)

-- the lines of a record of a volume, whose image has these bytes
unfoldable pub record_lines : ℕ → Opened → List ℕ → Printing Status
record_lines number volume image = with_status (record_printing volume image number)

-- the refusals of the geometry, once the words are taken
abbrev pub GeometryRefuses : Status → Type 0
GeometryRefuses (status.Absent named.Image) = Unit {0}
GeometryRefuses status.NotNtfs = Unit {0}
GeometryRefuses (status.BadGeometry field value) = Unit {0}
GeometryRefuses (status.ImageShort len need) = Unit {0}
GeometryRefuses status.ReadFault = Unit {0}
GeometryRefuses status.WriteFault = Unit {0}
GeometryRefuses status.NoMemory = Unit {0}
GeometryRefuses other = ⊥

-- and those of a record
abbrev pub RecordRefuses : Status → Type 0
RecordRefuses (status.Absent named.Image) = Unit {0}
RecordRefuses status.NotNtfs = Unit {0}
RecordRefuses (status.BadGeometry field value) = Unit {0}
RecordRefuses (status.ImageShort len need) = Unit {0}
RecordRefuses (status.Damaged rule number) = Unit {0}
RecordRefuses (status.NotFound what) = Unit {0}
RecordRefuses status.ReadFault = Unit {0}
RecordRefuses status.WriteFault = Unit {0}
RecordRefuses status.NoMemory = Unit {0}
RecordRefuses other = ⊥
