-- A volume that is checked before a tool uses it. The words are ours.
use Rattle.std.specs.Prelude.{ℕ, List, Result, Ok}
use Rattle.ntfs_base.specs.Bytes.{cluster_at}
use Rattle.ntfs_base.specs.Frames.{refused_as, ◌>>=◌}
use Rattle.ntfs_check.specs.Findings.{examined}
use Rattle.ntfs_rules.specs.VolumeData.{volume_data}
use Rattle.ntfs_volume.specs.Opened.{opened_of}
use Rattle.ntfs_run.specs.Outcome.{check_status, volume_status}
use Rattle.ntfs_run.specs.declared.checked.Accepted.{Accepted}
use Rattle.ntfs_run.specs.declared.status.Status.{Status}
use Rattle.ntfs_run.specs.declared.status.Status.TheVariants as status

-- the volume of an image that opens and keeps all sixteen rules, with what is found of it; else the first rule that it
-- breaks
unfoldable pub checked_of : List ℕ → Result Accepted Status
checked_of image = do
  table ← refused_as volume_status (opened_of image)
  findings ← refused_as check_status (examined (volume_data table (cluster_at image table.geometry.cluster)))
  Ok (record { table = table; findings = findings })

-- the refusals to check it
abbrev pub CheckRefuses : Status → Type 0
CheckRefuses status.NotNtfs = Unit {0}
CheckRefuses (status.BadGeometry field value) = Unit {0}
CheckRefuses (status.ImageShort len need) = Unit {0}
CheckRefuses (status.Damaged rule number) = Unit {0}
CheckRefuses status.ReadFault = Unit {0}
CheckRefuses status.NoMemory = Unit {0}
CheckRefuses other = ⊥
