-- What is printed of an image: of the file of a name, of the volume that it holds, and with refusals as statuses. The
-- words are ours.
use Rattle.std.specs.Prelude.{ℕ, List}
use Rattle.std.specs.Option.{ok_or, option_map}
use Rattle.ntfs_base.specs.Frames.{refused_as}
use Rattle.ntfs_base.specs.Shelf.{Files, file_of}
use Rattle.ntfs_base.specs.declared.refusal.Named.TheVariants as named
use Rattle.ntfs_print.specs.Printing.{Printing}
use Rattle.ntfs_show.specs.RecordInfo.{printing_after}
use Rattle.ntfs_print.specs.declared.fault.ShowFault.{ShowFault}
use Rattle.ntfs_volume.specs.Opened.{Opened, opened_of}
use Rattle.ntfs_run.specs.Outcome.{show_status, volume_status}
use Rattle.ntfs_run.specs.declared.status.Status.{Status}
use Rattle.ntfs_run.specs.declared.status.Status.TheVariants as status

-- of the image of a name, where it is there
abbrev pub of_file : List ℕ → Files → (List ℕ → Printing Status) → Printing Status
of_file name files shown = printing_after (ok_or (file_of files name) (status.Absent named.Image)) shown

-- of the volume of an image, where it opens
abbrev pub of_volume : List ℕ → (Opened → Printing Status) → Printing Status
of_volume image shown = printing_after (refused_as volume_status (opened_of image)) shown

-- what is printed of a volume, with its refusal as a status
abbrev pub with_status : Printing ShowFault → Printing Status
with_status printing = record { output = printing.output; fault = option_map show_status printing.fault }
