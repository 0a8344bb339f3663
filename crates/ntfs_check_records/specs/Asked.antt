-- What is asked of each record in use of a volume. The words are ours.
use Rattle.std.specs.Prelude.{◌≡◌, ◌<◌, ◌≤◌, ◌||◌, not, ℕ, Bool, true, false, List, Option, Some, None, Result, Ok, Err}
use Rattle.ntfs_base.specs.Frames.{IsSettled}
use Rattle.ntfs_check_records.specs.Reading.{records_of}
use Rattle.ntfs_record.specs.FileRecord.{Laid}
use Rattle.ntfs_record.specs.Slots.{Slot, first_not}
use Rattle.ntfs_rules.specs.Outcome.{check_origin}
use Rattle.ntfs_rules.specs.declared.fault.CheckFault.{CheckFault}
use Rattle.ntfs_survey.specs.Surveying.{record_at}
use Rattle.ntfs_volume.specs.Located.{Located}
use Rattle.ntfs_volume.specs.Opened.{Opened}

-- the answer of each record, by its number
abbrev pub RecordTest : Type 0
RecordTest = ℕ → Slot (Located (Laid (List ℕ))) → Bool

-- what is asked holds of record r, where it is in use
abbrev pub passes_asked : RecordTest → RecordTest
passes_asked answer r s = not s.is_live || answer r s

-- the same of the record of a number of an opened volume, where f gives the bytes of each cluster
abbrev pub asked_at : RecordTest → Opened → (ℕ → List ℕ) → ℕ → Bool
asked_at answer o f n = passes_asked answer n (record_at o f n)

-- the first record of an opened volume of which it doesn't hold
abbrev pub first_refused : RecordTest → Opened → (ℕ → List ℕ) → Option ℕ
first_refused answer o f = first_not (passes_asked answer) 0 (records_of o f)

-- the first number from one on, below another, that a test refuses
pub record IsFirstFailing (test : ℕ → Bool) (from to found : ℕ) : Type 0 where
  pub reached : from ≤ found
  pub below : found < to
  pub fails : test found ≡ false
  pub before : (n : ℕ) → from ≤ n → n < found → test n ≡ true

-- that number is found, and none where all pass
abbrev pub FindsFailing : (ℕ → Bool) → ℕ → ℕ → Option ℕ → Type 0
FindsFailing test from to None = (n : ℕ) → from ≤ n → n < to → test n ≡ true
FindsFailing test from to (Some found) = IsFirstFailing test from to found

-- unless the work was cut off
abbrev pub SearchesFailing : (ℕ → Bool) → ℕ → ℕ → Result (Option ℕ) CheckFault → Type 0
SearchesFailing test from to (Ok found) = FindsFailing test from to found
SearchesFailing test from to (Err fault) = IsSettled (check_origin fault) → ⊥

-- the first refused record is found, unless the work was cut off
abbrev pub FindsRefused : Option ℕ → Result (Option ℕ) CheckFault → Type 0
FindsRefused first (Ok found) = found ≡ first
FindsRefused first (Err fault) = IsSettled (check_origin fault) → ⊥
