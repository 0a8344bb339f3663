-- `ntfsclone`: a volume saved as a clone image or copied raw, and a clone image restored. A clone image that isn't put
-- into a file goes to the output, and one that isn't read from a file comes from the input.
use Rattle.std.specs.Prelude.{◌≡◌, ◌≤◌, ◌⊎◌, ◌||◌, ℕ, Bool, true, false, not, List, [], length, take, drop, Option, Some, None}
use Rattle.std.specs.Prelude.{IsSome, Result, Ok, Err, if◌then◌else◌}
use Rattle.std.specs.FinMap.{insert}
use Rattle.std.specs.Option.{is_none, ok_or}
use Rattle.ntfs_base.specs.Frames.{must, refused_as, ◌>>=◌}
use Rattle.ntfs_base.specs.Shelf.{Files, file_of, has_name}
use Rattle.ntfs_base.specs.declared.refusal.Named.{Named}
use Rattle.ntfs_base.specs.declared.refusal.Named.TheVariants as named
use Rattle.ntfs_clone.specs.CloneOf.{Volume, clone_of, volume_of}
use Rattle.ntfs_clone.specs.Commands.{Command, clone_commands, emptied}
use Rattle.ntfs_clone.specs.Copying.{IsPartCopy, copy_of}
use Rattle.ntfs_clone.specs.Header.{clone_header}
use Rattle.ntfs_clone.specs.Restored.{IsPartOf, restored, restored_before}
use Rattle.ntfs_clone.specs.declared.fault.CloneFault.{CloneFault}
use Rattle.ntfs_clone.specs.declared.header.CloneHeader.{CloneHeader}
use Rattle.ntfs_run.specs.Checked.{checked_of}
use Rattle.ntfs_run.specs.Outcome.{Outcome, Work, clone_status, may_make, status_of}
use Rattle.ntfs_run.specs.declared.checked.Accepted.{Accepted}
use Rattle.ntfs_run.specs.declared.status.Status.{Status}
use Rattle.ntfs_run.specs.declared.status.Status.TheVariants as status

-- ---- saving and copying

-- what of an image of these bytes is saved or copied, once its volume was checked
abbrev pub volume_in : Accepted → List ℕ → Volume
volume_in checked image = volume_of checked.table.geometry checked.findings.owned image

-- the volume of an image that is saved or copied: it keeps all rules, and isn't dirty, unless that is forced
unfoldable pub volume_to_save : Bool → List ℕ → Result Volume Status
volume_to_save force image = do
  checked ← checked_of image
  clean ← must (force || not checked.findings.facts.dirty) status.Dirty
  Ok (volume_in checked image)

-- the image of SOURCE, which is a file
abbrev pub source_bytes : Option (List ℕ) → Files → Result (List ℕ) Status
source_bytes None files = Err (status.Absent named.Source)
source_bytes (Some name) files = ok_or (file_of files name) (status.Absent named.Source)

-- the bytes of a clone image, or of a raw copy
abbrev pub saved_bytes : Bool → Volume → List ℕ
saved_bytes save volume = if save then clone_of volume else copy_of volume

-- a volume in a file of a name, which is the one that is meant
abbrev pub saved_in : Named → Bool → List ℕ → Bool → Volume → Files → Result Work Status
saved_in file save output overwrite volume files = do
  free ← may_make file overwrite output files
  Ok (record { output = []; files = insert files output (saved_bytes save volume) })

-- a volume in the file that is named; the output gets a clone image
abbrev pub saved_into : Bool → Option (List ℕ) → Bool → Volume → Files → Result Work Status
saved_into save None overwrite volume files = Ok (record { output = clone_of volume; files = files })
saved_into save (Some output) overwrite volume files = saved_in named.Output save output overwrite volume files

-- the clone image of the volume of an image of these bytes
abbrev pub clone_put : Bool → List ℕ → Result (List ℕ) Status
clone_put force image = do
  volume ← volume_to_save force image
  Ok (clone_of volume)

-- of the volume of a file
abbrev pub clone_put_of : Bool → List ℕ → Files → Result (List ℕ) Status
clone_put_of force name files = do
  image ← ok_or (file_of files name) (status.Absent named.Source)
  clone_put force image

-- the volume of an image of these bytes, saved or copied so
unfoldable pub saved_image : Bool → Bool → Option (List ℕ) → Bool → List ℕ → Files → Result Work Status
saved_image save force output overwrite image files = do
  volume ← volume_to_save force image
  saved_into save output overwrite volume files

-- the volume of SOURCE
unfoldable pub save_work : Bool → Bool → Option (List ℕ) → Bool → Option (List ℕ) → Files → Result Work Status
save_work save force output overwrite source files = do
  image ← source_bytes source files
  saved_image save force output overwrite image files

-- ---- restoring

-- the bytes of the clone image: of SOURCE, or those that the input has still to give
abbrev pub clone_bytes : Option (List ℕ) → Files → List ℕ → Result (List ℕ) Status
clone_bytes None files input = Ok input
clone_bytes (Some name) files input = ok_or (file_of files name) (status.Absent named.Source)

-- how a restore ends, by the commands that were read or the first that is wrong
abbrev pub restore_end : Result (List Command) CloneFault → Status
restore_end commands = status_of (refused_as clone_status (emptied commands))

-- what it leaves: the volume, or what stands before the command that is wrong
abbrev pub restored_by : CloneHeader → List ℕ → Result (List Command) CloneFault → List ℕ
restored_by header rest (Ok commands) = restored header commands
restored_by header rest (Err fault) = restored_before header rest

-- a clone image of this header, behind which these bytes stand, in a file of a name, which is the one that is meant
abbrev pub restored_in : Named → List ℕ → Bool → CloneHeader → List ℕ → Files → Result Outcome Status
restored_in file output overwrite header rest files = do
  free ← may_make file overwrite output files
  Ok (record {
    status = restore_end (clone_commands header rest);
    output = [];
    files = insert files output (restored_by header rest (clone_commands header rest));
  })

-- in the file that is named; with none it is only read
abbrev pub restored_into : Option (List ℕ) → Bool → CloneHeader → List ℕ → Files → Result Outcome Status
restored_into None overwrite header rest files =
    Ok (record { status = restore_end (clone_commands header rest); output = []; files = files })
restored_into (Some output) overwrite header rest files = restored_in named.Output output overwrite header rest files

-- a clone image of these bytes, whose header is read before a file is made
unfoldable pub restored_image : Option (List ℕ) → Bool → List ℕ → Files → Result Outcome Status
restored_image output overwrite image files = do
  header ← refused_as clone_status (clone_header image)
  restored_into output overwrite header (drop header.offset image) files

-- that of SOURCE or of the input
unfoldable pub restore_work : Option (List ℕ) → Bool → Option (List ℕ) → Files → List ℕ → Result Outcome Status
restore_work output overwrite source files input = do
  image ← clone_bytes source files input
  restored_image output overwrite image files

-- ---- what any exit leaves

-- the files with one of this name and of these bytes, which was made
pub record IsMade (output : List ℕ) (overwrite : Bool) (holds : List ℕ → Type 0) (old new : Files) : Type 0 where
  pub bytes : List ℕ
  pub free : (overwrite || is_none (file_of old output)) ≡ true
  pub made : new ≡ insert old output bytes
  pub held : holds bytes

-- the files as they were, or with the one that is named, made
abbrev pub LeavesOutput : Option (List ℕ) → Bool → (List ℕ → Type 0) → Files → Files → Type 0
LeavesOutput None overwrite holds old new = new ≡ old
LeavesOutput (Some output) overwrite holds old new = (new ≡ old) ⊎ IsMade output overwrite holds old new

-- a prefix of the clone image of a volume, or a part of its raw copy
abbrev pub IsPartSaved : Bool → Volume → List ℕ → Type 0
IsPartSaved true volume bytes = (k : ℕ) × (k ≤ length (clone_of volume)) × (bytes ≡ take k (clone_of volume))
IsPartSaved false volume bytes = IsPartCopy volume bytes

-- of the volume of an image of these bytes, which may be saved
pub record IsSavedFrom (save force : Bool) (image bytes : List ℕ) : Type 0 where
  pub volume : Volume
  pub saved : volume_to_save force image ≡ Ok volume
  pub part : IsPartSaved save volume bytes

-- of a clone image of these bytes, whose header is right, a part that a restore leaves
pub record IsRestoredFrom (image bytes : List ℕ) : Type 0 where
  pub header : CloneHeader
  pub begins : clone_header image ≡ Ok header
  pub part : IsPartOf header (drop header.offset image) bytes

-- what a save or a copy leaves
abbrev pub LeavesSaved : Bool → Bool → Option (List ℕ) → Bool → Option (List ℕ) → Files → Files → Type 0
LeavesSaved save force output overwrite source old new =
    LeavesOutput output overwrite (λ bytes.
    (image : List ℕ) × (source_bytes source old ≡ Ok image) × IsSavedFrom save force image bytes) old new

-- and a restore
abbrev pub LeavesRestored : Option (List ℕ) → Bool → Option (List ℕ) → Files → List ℕ → Files → Type 0
LeavesRestored output overwrite source old input new =
    LeavesOutput output overwrite (λ bytes.
    (image : List ℕ) × (clone_bytes source old input ≡ Ok image) × IsRestoredFrom image bytes) old new

-- ---- refusals, once the words are taken

-- a file is made, and must be new
abbrev pub MustBeNew : Option (List ℕ) → Bool → Type 0
MustBeNew None overwrite = ⊥
MustBeNew (Some output) overwrite = overwrite ≡ false

-- those of a volume that is to be saved or copied
abbrev pub VolumeRefuses : Bool → Status → Type 0
VolumeRefuses force status.NotNtfs = Unit {0}
VolumeRefuses force (status.BadGeometry field value) = Unit {0}
VolumeRefuses force (status.ImageShort len need) = Unit {0}
VolumeRefuses force (status.Damaged rule number) = Unit {0}
VolumeRefuses force status.Dirty = force ≡ false
VolumeRefuses force status.ReadFault = Unit {0}
VolumeRefuses force status.NoMemory = Unit {0}
VolumeRefuses force other = ⊥

-- those of a save or a copy
abbrev pub SaveRefuses : Bool → Option (List ℕ) → Bool → Status → Type 0
SaveRefuses force output overwrite (status.Absent named.Source) = Unit {0}
SaveRefuses force output overwrite status.NotNtfs = Unit {0}
SaveRefuses force output overwrite (status.BadGeometry field value) = Unit {0}
SaveRefuses force output overwrite (status.ImageShort len need) = Unit {0}
SaveRefuses force output overwrite (status.Damaged rule number) = Unit {0}
SaveRefuses force output overwrite status.Dirty = force ≡ false
SaveRefuses force output overwrite (status.Present named.Output) = MustBeNew output overwrite
SaveRefuses force output overwrite status.ReadFault = Unit {0}
SaveRefuses force output overwrite status.WriteFault = Unit {0}
SaveRefuses force output overwrite status.NoMemory = Unit {0}
SaveRefuses force output overwrite other = ⊥

-- and of a restore
abbrev pub RestoreRefuses : Option (List ℕ) → Bool → Option (List ℕ) → Status → Type 0
RestoreRefuses output overwrite source (status.Absent named.Source) = IsSome source
RestoreRefuses output overwrite source (status.Present named.Output) = MustBeNew output overwrite
RestoreRefuses output overwrite source (status.BadClone place) = Unit {0}
RestoreRefuses output overwrite source status.ReadFault = Unit {0}
RestoreRefuses output overwrite source status.WriteFault = Unit {0}
RestoreRefuses output overwrite source status.NoMemory = Unit {0}
RestoreRefuses output overwrite source other = ⊥

-- those of a clone image whose bytes are at hand
abbrev pub ImageRefuses : Option (List ℕ) → Bool → Status → Type 0
ImageRefuses output overwrite (status.Present named.Output) = MustBeNew output overwrite
ImageRefuses output overwrite (status.BadClone place) = Unit {0}
ImageRefuses output overwrite status.ReadFault = Unit {0}
ImageRefuses output overwrite status.WriteFault = Unit {0}
ImageRefuses output overwrite status.NoMemory = Unit {0}
ImageRefuses output overwrite other = ⊥

-- and of a clone image that is put to the output
abbrev pub PutRefuses : Bool → Status → Type 0
PutRefuses force (status.Absent named.Source) = Unit {0}
PutRefuses force status.WriteFault = Unit {0}
PutRefuses force other = VolumeRefuses force other

-- ---- names

-- the file that is made isn't attached
abbrev pub IsDetached : Option (List ℕ) → List (List ℕ) → Type 0
IsDetached None attached = Unit {0}
IsDetached (Some output) attached = has_name output attached ≡ false
