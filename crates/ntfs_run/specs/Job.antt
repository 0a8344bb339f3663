-- The jobs of `ntfstrial` one by one, under any names, and what a call keeps that makes files and puts lines. The
-- words are ours.
use Rattle.std.specs.Prelude.{◌≡◌, ◌⊎◌, ℕ, true, false, List, length, drop, codes, Some, OnOk, IfErr, Result, Ok}
use Rattle.std.specs.Option.{ok_or}
use Rattle.ntfs_base.specs.Causes.{HaveNotFallen, Rose}
use Rattle.ntfs_base.specs.Frames.{Because, SinkHasNotFallen, refused_as, ◌>>=◌}
use Rattle.ntfs_base.specs.Shelf.{Files, file_of}
use Rattle.ntfs_base.specs.declared.refusal.Named.TheVariants as named
use Rattle.ntfs_base.specs.declared.shelf.Shelf as shelf
use Rattle.ntfs_base.specs.declared.sink.Sink as sink
use Rattle.ntfs_clone.specs.Header.{clone_header}
use Rattle.ntfs_run.specs.Checked.{checked_of}
use Rattle.ntfs_run.specs.Clone.{IsRestoredFrom, IsSavedFrom, restored_in, saved_in, volume_in}
use Rattle.ntfs_run.specs.Outcome.{Outcome, clone_status, outcome_of, outcome_or, status_origin}
use Rattle.ntfs_run.specs.Trial.{TrialRefuses, after_line, bytes_line, in_turn, made_line, says}
use Rattle.ntfs_run.specs.declared.status.Status.{Status}
use Rattle.ntfs_run.specs.declared.status.Status.TheVariants as status

-- ---- the clone image

-- the volume of an image of these bytes, checked and saved to a new file
unfoldable pub saved_from : List ℕ → List ℕ → Files → Result Outcome Status
saved_from clone image files = do
  checked ← checked_of image
  Ok (after_line (made_line (volume_in checked image))
      (outcome_of files (saved_in named.Clone true clone false (volume_in checked image) files)))

-- that of a file
unfoldable pub saved_of : List ℕ → List ℕ → Files → Result Outcome Status
saved_of name clone files = do
  image ← ok_or (file_of files name) (status.Absent named.Output)
  saved_from clone image files

-- a part of the clone image of the volume of a file
abbrev pub IsSavedOf : List ℕ → Files → List ℕ → Type 0
IsSavedOf name files bytes = (image : List ℕ) × (file_of files name ≡ Some image) × IsSavedFrom true true image bytes

-- ---- what it restores

-- in a new file, with a line behind
unfoldable pub restored_as : List ℕ → List ℕ → Files → Outcome
restored_as back clone files = outcome_or files (do
  header ← refused_as clone_status (clone_header clone)
  outcome ← restored_in named.Back back false header (drop header.offset clone) files
  Ok (in_turn outcome (says (bytes_line (codes "restored: ") header.device))))

-- and with one before
unfoldable pub restored_behind_line : ℕ → List ℕ → List ℕ → Files → Outcome
restored_behind_line len back clone files = after_line (bytes_line (codes "clone: ") len) (restored_as back clone files)

-- that of a file
unfoldable pub restored_of : List ℕ → List ℕ → Files → Result Outcome Status
restored_of name back files = do
  clone ← ok_or (file_of files name) (status.Absent named.Clone)
  Ok (restored_behind_line (length clone) back clone files)

-- a part of what the clone image of a file restores
abbrev pub IsRestoredOf : List ℕ → Files → List ℕ → Type 0
IsRestoredOf name files bytes = (clone : List ℕ) × (file_of files name ≡ Some clone) × IsRestoredFrom clone bytes

-- ---- what a call keeps

-- a call over a shelf that releases each file that it makes, and over an output: names that were attached stay so, a
-- fault has its cause, which may also be another one of a read, and what was done whole stands flushed
pub record MakesAndPuts {S F K : Type 0} (s : shelf.Ghosts S F) (k : sink.Ghosts K) (old new : S) (before after : K)
    (read : Type 0) (result : Result (Unit {0}) Status) : Type 0 where
  pub told : (s.seen new).is_told ≡ (s.seen old).is_told
  pub attached : (s.seen new).attached ≡ (s.seen old).attached
  pub counts : HaveNotFallen (s.faults old) (s.faults new)
  pub puts : SinkHasNotFallen (k.faults before) (k.faults after)
  pub cause : IfErr result (λ fault. Because (status_origin fault)
      ((Rose (s.faults old).reads (s.faults new).reads) ⊎ read)
      ((Rose (s.faults old).writes (s.faults new).writes) ⊎ (Rose (k.faults before).failures (k.faults after).failures))
      (Unit {0}))
  pub refusal : IfErr result TrialRefuses
  pub flushed : OnOk result (k.is_flushed after ≡ true)
