-- Files that are filled with a clone image, a raw copy or what a clone image restores. The words are ours.
use Rattle.std.specs.Prelude.{◌≡◌, ◌≤◌, ◌⊎◌, ℕ, Bool, false, List, IfErr, Result, Ok, Err}
use Rattle.ntfs_base.specs.Causes.{HaveNotFallen, Rose}
use Rattle.ntfs_base.specs.Frames.{Because}
use Rattle.ntfs_base.specs.declared.image.Image as image
use Rattle.ntfs_base.specs.declared.refusal.Named.{Named}
use Rattle.ntfs_base.specs.declared.source.Source as source
use Rattle.ntfs_clone.specs.CloneOf.{Volume}
use Rattle.ntfs_clone.specs.Commands.{right_commands}
use Rattle.ntfs_clone.specs.Restored.{IsPartOf, restored, restored_before}
use Rattle.ntfs_clone.specs.declared.header.CloneHeader.{CloneHeader}
use Rattle.ntfs_run.specs.Clone.{IsPartSaved, saved_bytes}
use Rattle.ntfs_run.specs.Outcome.{status_origin}
use Rattle.ntfs_run.specs.declared.status.Status.{Status}
use Rattle.ntfs_run.specs.declared.status.Status.TheVariants as status

-- ---- what stands in a file that was empty

-- of a volume that was saved or copied: the clone image or the copy, or a part of it where the work was cut off
abbrev pub IsFilled : Bool → Volume → Result (Unit {0}) Status → List ℕ → Type 0
IsFilled save volume (Ok done) content = content ≡ saved_bytes save volume
IsFilled save volume (Err fault) content = IsPartSaved save volume content

-- of a clone image of this header, behind which these bytes stand: what it restores, or what stands before a command
-- that is wrong, or a part where the work was cut off
abbrev pub IsRestoredAs : CloneHeader → List ℕ → Result (Unit {0}) Status → List ℕ → Type 0
IsRestoredAs header rest (Ok done) content = content ≡ restored header (right_commands header rest)
IsRestoredAs header rest (Err (status.BadClone place)) content = content ≡ restored_before header rest
IsRestoredAs header rest (Err other) content = IsPartOf header rest content

-- ---- what a call keeps

-- a call over an image that is only read, and a file that is written
pub record Fills {G F : Type 0} (g : image.Ghosts G) (f : image.Ghosts F) (old new : G) (before after : F)
    (result : Result (Unit {0}) Status) : Type 0 where
  pub seen : g.seen new ≡ g.seen old
  pub counts : HaveNotFallen (g.faults old) (g.faults new)
  pub bears : (f.seen after).name ≡ (f.seen before).name
  pub cause : IfErr result (λ fault. Because (status_origin fault) (Rose (g.faults old).reads (g.faults new).reads)
      (Rose (f.faults before).writes (f.faults after).writes) (Unit {0}))

-- a call over a source, and a file that is written and may be read
pub record RestoresFrom {I F : Type 0} (i : source.Ghosts I) (f : image.Ghosts F) (old new : I) (before after : F)
    (result : Result (Unit {0}) Status) : Type 0 where
  pub takes : i.faults old ≤ i.faults new
  pub bears : (f.seen after).name ≡ (f.seen before).name
  pub cause : IfErr result (λ fault. Because (status_origin fault)
      ((Rose (i.faults old) (i.faults new)) ⊎ (Rose (f.faults before).reads (f.faults after).reads))
      (Rose (f.faults before).writes (f.faults after).writes) (Unit {0}))

-- ---- refusals

-- a read or a write failed, or memory was wanting
abbrev pub IsCutOff : Status → Type 0
IsCutOff status.ReadFault = Unit {0}
IsCutOff status.WriteFault = Unit {0}
IsCutOff status.NoMemory = Unit {0}
IsCutOff other = ⊥

-- those of the header of a clone image, which takes no memory
abbrev pub HeaderRefuses : Status → Type 0
HeaderRefuses (status.BadClone place) = Unit {0}
HeaderRefuses status.ReadFault = Unit {0}
HeaderRefuses other = ⊥

-- of a clone image that is only read
abbrev pub ReadRefuses : Status → Type 0
ReadRefuses (status.BadClone place) = Unit {0}
ReadRefuses status.ReadFault = Unit {0}
ReadRefuses status.NoMemory = Unit {0}
ReadRefuses other = ⊥

-- and of one that is restored
abbrev pub CloneRefuses : Status → Type 0
CloneRefuses (status.BadClone place) = Unit {0}
CloneRefuses status.ReadFault = Unit {0}
CloneRefuses status.WriteFault = Unit {0}
CloneRefuses status.NoMemory = Unit {0}
CloneRefuses other = ⊥

-- of a volume that is saved or copied to a file, which is made as the one that is meant
abbrev pub OutputRefuses : Named → Bool → Status → Type 0
OutputRefuses file overwrite (status.Present other) = (other ≡ file) × (overwrite ≡ false)
OutputRefuses file overwrite status.ReadFault = Unit {0}
OutputRefuses file overwrite status.WriteFault = Unit {0}
OutputRefuses file overwrite status.NoMemory = Unit {0}
OutputRefuses file overwrite other = ⊥

-- and of a clone image that is restored to one
abbrev pub FileRefuses : Named → Bool → Status → Type 0
FileRefuses file overwrite (status.Present other) = (other ≡ file) × (overwrite ≡ false)
FileRefuses file overwrite (status.BadClone place) = Unit {0}
FileRefuses file overwrite status.ReadFault = Unit {0}
FileRefuses file overwrite status.WriteFault = Unit {0}
FileRefuses file overwrite status.NoMemory = Unit {0}
FileRefuses file overwrite other = ⊥
