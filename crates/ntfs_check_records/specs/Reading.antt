-- What is read of a record, and what an answer that may be cut off says. The words are ours.
use Rattle.std.specs.Prelude.{◌≡◌, ◌&&◌, Bool, false, Option, Some, None, Result, Ok, Err}
use Rattle.ntfs_base.specs.Frames.{IsSettled}
use Rattle.ntfs_record.specs.FileRecord.{FileRecord, Laid}
use Rattle.ntfs_record.specs.Slots.{Slot}
use Rattle.ntfs_rules.specs.Outcome.{check_origin}
use Rattle.ntfs_rules.specs.declared.fault.CheckFault.{CheckFault}
use Rattle.ntfs_volume.specs.Located.{Located, slots_of, sound_located}
use Rattle.ntfs_volume.specs.Opened.{Opened}
use Rattle.std.specs.Prelude.{List, ℕ}

-- the records of an opened volume, where f gives the bytes of each cluster
abbrev pub records_of : Opened → (ℕ → List ℕ) → List (Slot (Located (Laid (List ℕ))))
records_of o f = slots_of o.geometry o.map f

-- a record is in use, and nothing is wrong with it
abbrev pub is_readable : {P : Type 0} → Slot P → Bool
is_readable s = s.is_live && s.is_sound

-- a view shows what a record says; there is none of one that can't be read
abbrev pub IsView : Slot (Located (Laid (List ℕ))) → Option FileRecord → Type 0
IsView s None = is_readable s ≡ false
IsView s (Some said) = s ≡ sound_located said

-- the same of a view that was read, unless the work was cut off
abbrev pub ReadsView : Slot (Located (Laid (List ℕ))) → Result (Option FileRecord) CheckFault → Type 0
ReadsView s (Ok view) = IsView s view
ReadsView s (Err fault) = IsSettled (check_origin fault) → ⊥

-- the answer of a test, unless the work was cut off
abbrev pub Answers : Bool → Result Bool CheckFault → Type 0
Answers test (Ok answer) = answer ≡ test
Answers test (Err fault) = IsSettled (check_origin fault) → ⊥
