-- `ntfstrial`: a volume is made in a new file, it is checked and saved as a clone image in a second one, and that is
-- restored to a third one. Each job begins with the files that the one before it left. The words are ours.
use Rattle.std.specs.Prelude.{◌≡◌, ◌⊎◌, ◌++◌, ◌∷◌, ℕ, true, false, List, [], length, drop, codes, Some, None, Ok}
use Rattle.std.specs.FinMap.{insert}
use Rattle.std.specs.Option.{ok_or}
use Rattle.ntfs_base.specs.Frames.{refused_as, ◌>>=◌}
use Rattle.ntfs_base.specs.Shelf.{Files, file_of}
use Rattle.ntfs_base.specs.declared.refusal.Named.TheVariants as named
use Rattle.ntfs_clone.specs.CloneOf.{Volume, owned_count}
use Rattle.ntfs_clone.specs.Header.{clone_header}
use Rattle.ntfs_make.specs.Volume.{volume_bytes_of}
use Rattle.ntfs_run.specs.Checked.{checked_of}
use Rattle.ntfs_run.specs.Clone.{IsRestoredFrom, IsSavedFrom, LeavesOutput, restored_in, saved_in, volume_in}
use Rattle.ntfs_run.specs.Make.{LeavesFile, make_work}
use Rattle.ntfs_run.specs.Message.{with_number}
use Rattle.ntfs_run.specs.Outcome.{Outcome, clone_status, outcome_of, outcome_or}
use Rattle.ntfs_run.specs.declared.status.Status.{Status}
use Rattle.ntfs_run.specs.declared.status.Status.TheVariants as status

-- ---- the files, and the volume

-- the name of the clone image, beside the volume's
abbrev pub clone_name : List ℕ → List ℕ
clone_name name = name ++ codes ".clone"

-- the name of what is restored
abbrev pub back_name : List ℕ → List ℕ
back_name name = name ++ codes ".back"

-- the files that a trial makes
abbrev pub trial_names : List ℕ → List (List ℕ)
trial_names name = name ∷ clone_name name ∷ back_name name ∷ []

-- the volume of a seed: 16,384 clusters of 4,096 bytes
abbrev pub trial_image : ℕ → List ℕ
trial_image seed = volume_bytes_of seed 16384 4096

-- ---- lines

-- how many clusters the volume has, and how many of them are owned
abbrev pub made_line : Volume → List ℕ
made_line volume = (with_number (codes "made: 16384 clusters, ") (owned_count volume.owned 0 volume.clusters)
    ++ codes " owned") ++ (10 ∷ [])

-- how many bytes a file has
abbrev pub bytes_line : List ℕ → ℕ → List ℕ
bytes_line label count = (with_number label count ++ codes " bytes") ++ (10 ∷ [])

-- ---- jobs

-- these bytes are put before
abbrev pub after_line : List ℕ → Outcome → Outcome
after_line line outcome = record { status = outcome.status; output = line ++ outcome.output; files = outcome.files }

-- a line, and the files as they are
abbrev pub says : List ℕ → Files → Outcome
says line files = record { status = status.Done; output = line; files = files }

-- a job that was done and ended so, and then the next one, which begins with the files that it left; one that was
-- refused is the last
abbrev pub in_turn_of : Status → Outcome → (Files → Outcome) → Outcome
in_turn_of status.Done first next = after_line first.output (next first.files)
in_turn_of refused first next = first

abbrev pub in_turn : Outcome → (Files → Outcome) → Outcome
in_turn first next = in_turn_of first.status first next

-- the volume is checked, and its clone image saved to a new file
unfoldable pub saved_trial : List ℕ → Files → Outcome
saved_trial name files = outcome_or files (do
  image ← ok_or (file_of files name) (status.Absent named.Output)
  checked ← checked_of image
  Ok (after_line (made_line (volume_in checked image))
      (outcome_of files (saved_in named.Clone true (clone_name name) false (volume_in checked image) files))))

-- what a clone image restores, in a new file
unfoldable pub restored_back : List ℕ → List ℕ → Files → Outcome
restored_back name clone files = outcome_or files (do
  header ← refused_as clone_status (clone_header clone)
  outcome ← restored_in named.Back (back_name name) false header (drop header.offset clone) files
  Ok (in_turn outcome (says (bytes_line (codes "restored: ") header.device))))

-- the clone image is restored
unfoldable pub restored_trial : List ℕ → Files → Outcome
restored_trial name files = outcome_or files (do
  clone ← ok_or (file_of files (clone_name name)) (status.Absent named.Clone)
  Ok (after_line (bytes_line (codes "clone: ") (length clone)) (restored_back name clone files)))

-- the jobs of a trial, one after another
unfoldable pub trial_outcome : ℕ → List ℕ → Files → Outcome
trial_outcome seed name files =
    in_turn (outcome_of files (make_work name seed 16384 4096 files)) (λ made.
    in_turn (saved_trial name made) (restored_trial name))

-- ---- what any exit leaves

-- the volume stands, and of its clone image nothing or a part
pub record LeavesTrialSaved (seed : ℕ) (name : List ℕ) (old new : Files) : Type 0 where
  pub free : file_of old name ≡ None
  pub saved : LeavesOutput (Some (clone_name name)) false (IsSavedFrom true true (trial_image seed))
      (insert old name (trial_image seed)) new

-- the files once the clone image of the volume was saved, and how that ended
abbrev pub trial_saved : ℕ → List ℕ → Files → Outcome
trial_saved seed name old = saved_trial name (insert old name (trial_image seed))

-- the volume and its clone image stand, and of what that restores nothing or a part
pub record LeavesTrialRestored (seed : ℕ) (name : List ℕ) (old new : Files) : Type 0 where
  pub clone : List ℕ
  pub free : file_of old name ≡ None
  pub whole : (trial_saved seed name old).status ≡ status.Done
  pub held : file_of (trial_saved seed name old).files (clone_name name) ≡ Some clone
  pub restored : LeavesOutput (Some (back_name name)) false (IsRestoredFrom clone)
      (trial_saved seed name old).files new

-- nothing or a part of the volume; or that, and a part of the clone image; or both, and a part of what is restored
abbrev pub LeavesTrial : ℕ → List ℕ → Files → Files → Type 0
LeavesTrial seed name old new = LeavesFile name seed 16384 4096 old new
    ⊎ (LeavesTrialSaved seed name old new ⊎ LeavesTrialRestored seed name old new)

-- ---- refusals, once the words are taken

-- a file that was just made may be missing, or hold another volume or clone image, where a shelf doesn't tell its files
abbrev pub TrialRefuses : Status → Type 0
TrialRefuses (status.Absent named.Output) = Unit {0}
TrialRefuses (status.Absent named.Clone) = Unit {0}
TrialRefuses (status.Present named.Output) = Unit {0}
TrialRefuses (status.Present named.Clone) = Unit {0}
TrialRefuses (status.Present named.Back) = Unit {0}
TrialRefuses status.NotNtfs = Unit {0}
TrialRefuses (status.BadGeometry field value) = Unit {0}
TrialRefuses (status.ImageShort len need) = Unit {0}
TrialRefuses (status.Damaged rule number) = Unit {0}
TrialRefuses (status.BadClone place) = Unit {0}
TrialRefuses status.ReadFault = Unit {0}
TrialRefuses status.WriteFault = Unit {0}
TrialRefuses status.NoMemory = Unit {0}
TrialRefuses other = ⊥
