-- What stands on a target while a clone image is restored to it. The words are ours.
use Rattle.std.proofs.Common.{inl, inr}
use Rattle.std.specs.Prelude.{◌≡◌, ◌≤◌, ◌<◌, ◌+◌, ◌*◌, ◌⊎◌, ◌==◌, ℕ, Bool, List, ◌++◌, length, take, IsTrue, IfErr, OnErr, OnOk, Result, Ok, Err}
use Rattle.ntfs_base.specs.Causes.{HaveNotFallen, Rose}
use Rattle.ntfs_base.specs.Frames.{Because, IsSameDevice}
use Rattle.ntfs_base.specs.Image.{ImageState}
use Rattle.ntfs_base.specs.declared.image.Image as image
use Rattle.ntfs_base.specs.declared.source.Source as source
use Rattle.ntfs_clone.specs.declared.fault.CloneFault.{CloneFault}
use Rattle.ntfs_clone.specs.declared.fault.CloneFault.TheVariants as clone
use Rattle.ntfs_clone.specs.declared.command.Progress.{Progress}
use Rattle.ntfs_clone.specs.declared.header.CloneHeader.{CloneHeader}
use Rattle.ntfs_clone.specs.declared.row.Row.{Row}
use Rattle.ntfs_clone.specs.Commands.{Command, commands_content, covered, right_commands}
use Rattle.ntfs_clone.specs.Fault.{clone_origin}
use Rattle.ntfs_clone.specs.Reading.{HasRead}
use Rattle.ntfs_clone.specs.Restored.{IsPartOf, laid_out, restored, restored_before}

-- of the commands that were read, the first ones were written, and the bytes of the others wait in the row
pub record IsHeld (h : CloneHeader) (read : List Command) (row : Row) (content : List ℕ) : Type 0 where
  pub written : ℕ
  pub within : written ≤ length read
  pub place : length (commands_content h.cluster (take written read)) ≡ row.place
  pub parts : commands_content h.cluster (take written read) ++ row.bytes.items ≡ commands_content h.cluster read
  pub laid : content ≡ laid_out h (take written read)

-- some of the first commands were written
pub record IsFront (h : CloneHeader) (read : List Command) (content : List ℕ) : Type 0 where
  pub written : ℕ
  pub laid : content ≡ laid_out h (take written read)

-- a row that isn't empty begins on the device
abbrev pub Begins : CloneHeader → Row → Type 0
Begins h row = 0 < length row.bytes.items → row.place ≤ h.device

-- behind the row, and the room that is left, all clusters and the tail end; a row that isn't empty has a cluster
pub record Reaches (h : CloneHeader) (room : ℕ) (row : Row) : Type 0 where
  pub sum : row.place + length row.bytes.items + room * h.cluster ≡ (h.clusters + 1) * h.cluster
  pub whole : 0 < length row.bytes.items → h.cluster ≤ length row.bytes.items

-- the same device, and of the same length
pub record IsSameFile (old new : ImageState) : Type 0 where
  pub same : IsSameDevice old new
  pub size : new.size ≡ old.size

-- of the bytes behind a header some commands were read; where the target tells its content, they were written or wait
pub record HasRestored (h : CloneHeader) (all : List ℕ) (p : Progress) (rest : List ℕ) (row : Row) (target : ImageState)
    : Type 0 where
  pub reading : HasRead h all p rest
  pub held : IsTrue target.is_told → IsHeld h reading.read row target.content

-- what stands after all commands were to be written: those that are right, where the work was not cut off, and else
-- some of the first; and whether they end before the tail
abbrev pub IsWritten : CloneHeader → List ℕ → Result Bool CloneFault → List ℕ → Type 0
IsWritten h bytes (Ok before_tail) content =
    (content ≡ laid_out h (right_commands h bytes))
    × (before_tail ≡ (covered (right_commands h bytes) == h.clusters))
IsWritten h bytes (Err (clone.BadClone place)) content = content ≡ laid_out h (right_commands h bytes)
IsWritten h bytes (Err other) content = IsFront h (right_commands h bytes) content

-- a call that takes from a source and writes a file, which it may read
pub record Restores {I F T : Type 0} (i : source.Ghosts I) (f : image.Ghosts F) (old new : I) (before after : F)
    (result : Result T CloneFault) : Type 0 where
  pub takes : i.faults old ≤ i.faults new
  pub counts : HaveNotFallen (f.faults before) (f.faults after)
  pub cause : IfErr result (λ fault. Because (clone_origin fault)
      (Rose (i.faults old) (i.faults new) ⊎ Rose (f.faults before).reads (f.faults after).reads)
      (Rose (f.faults before).writes (f.faults after).writes) (Unit {0}))

-- a call that had to make a content of another one made it, or, where it failed, made it or left it
pub record Makes {T E : Type 0} (asked old : List ℕ) (result : Result T E) (new : List ℕ) : Type 0 where
  pub whole : OnOk result (new ≡ asked)
  pub part : OnErr result ((new ≡ old) ⊎ (new ≡ asked))

-- a call over a file that is read and written
pub record OnlyChanges {F T : Type 0} (f : image.Ghosts F) (before after : F) (result : Result T CloneFault)
    : Type 0 where
  pub counts : HaveNotFallen (f.faults before) (f.faults after)
  pub cause : IfErr result (λ fault. Because (clone_origin fault) (Rose (f.faults before).reads (f.faults after).reads)
      (Rose (f.faults before).writes (f.faults after).writes) (Unit {0}))

-- what stands on a target that was empty
abbrev pub IsRestored : CloneHeader → List ℕ → Result (Unit {0}) CloneFault → List ℕ → Type 0
IsRestored h bytes (Ok done) content = content ≡ restored h (right_commands h bytes)
IsRestored h bytes (Err (clone.BadClone place)) content = content ≡ restored_before h bytes
IsRestored h bytes (Err other) content = IsPartOf h bytes content

-- of a target that may be missing, where there is one: the two come apart as the variants of an option do
abbrev pub OnTarget : {A B C : Type 0} → A ⊎ (B ⊎ C) → (B → Type 0) → Type 0
OnTarget (inl missing) is = Unit {0}
OnTarget (inr (inl target)) is = is target
OnTarget (inr (inr nothing)) is = Unit {0}
