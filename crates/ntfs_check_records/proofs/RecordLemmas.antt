-- Records with views of what they say.
use Rattle.std.proofs.Common.{◌≡◌, ◌≤◌, ◌<◌, ◌+◌, ◌&&◌, ◌||◌, inl, inr, ℕ, zero, suc, Bool, true, false, List, [], ◌∷◌, length, Option, Some, None, Err, refl, sym, ap, ◌∙◌, arith, if◌then◌else◌}
use Rattle.std.specs.Prelude.{not}
use Rattle.ntfs_boot.specs.declared.geometry.Geometry.{Geometry}
use Rattle.ntfs_check_records.specs.Reading.{is_readable}
use Rattle.ntfs_record.specs.FileRecord.{FileRecord, Laid}
use Rattle.ntfs_record.specs.Slots.{Slot, begins_baad, first_not, is_in_use, map_laid, map_slot, map_slots, on_payload, record_in, tells_own}
use Rattle.ntfs_rules.proofs.ListLemmas.{raw-past}
use Rattle.ntfs_rules.specs.Records.{c4}
use Rattle.ntfs_survey.specs.Surveying.{record_at}
use Rattle.ntfs_volume.specs.Opened.{Opened}
use Rattle.ntfs_volume.specs.Scan.{initialised_count}
use Rattle.std.proofs.lemmas.Bool.{cases_lt}
use Rattle.ntfs_runs.specs.Cells.{Cells, cells_below}
use Rattle.ntfs_survey.specs.Owned.{is_whole}
use Rattle.ntfs_volume.proofs.GatherLemmas.{IsFaulty, slot-faulty}
use Rattle.ntfs_volume.specs.Located.{Located, idle, live_located, located_slot, map_located, slot_at, slots_from, slots_of, sound_located, unsound_located, with_cells}
use Rattle.ntfs_volume.specs.MftMap.{Map}
use Rattle.ntfs_volume.specs.Records.{read_of}
use Rattle.ntfs_volume.specs.declared.fault.VolumeFault.{VolumeFault}

-- ---- by the bytes as they stand on disk

readable-idle : (b : Bool) (x : Slot (Located (Laid (List ℕ)))) (baad : Bool) → b ≡ false → is_readable (if b then x else idle baad) ≡ false
readable-idle b x baad is = rw is refl

pub raw-idle : (n : ℕ) (raw : List ℕ) → is_in_use raw ≡ false → is_readable (located_slot n (Some raw)) ≡ false
unfolding located_slot
raw-idle n raw is = readable-idle (is_in_use raw) (live_located n (record_in raw)) (begins_baad raw) is

raw-live : (n : ℕ) (raw : List ℕ) (said : Option FileRecord) → is_in_use raw ≡ true → record_in raw ≡ said → located_slot n (Some raw) ≡ live_located n said
unfolding located_slot
raw-live n raw said is same = rw is (ap (live_located n) same)

pub raw-torn : (n : ℕ) (raw : List ℕ) → is_in_use raw ≡ true → record_in raw ≡ None → is_readable (located_slot n (Some raw)) ≡ false
raw-torn n raw is none = ap (λ (s : Slot (Located (Laid (List ℕ)))). is_readable s) (raw-live n raw None is none)

pub raw-other : (n : ℕ) (raw : List ℕ) (said : FileRecord) → is_in_use raw ≡ true → record_in raw ≡ Some said → tells_own n said.layout.number ≡ false
    → is_readable (located_slot n (Some raw)) ≡ false
raw-other n raw said is same other =
    ap (λ (s : Slot (Located (Laid (List ℕ)))). is_readable s) (raw-live n raw (Some said) is same)
    ∙ ap (λ b. is_readable (if b then sound_located said else unsound_located)) other

pub raw-own : (n : ℕ) (raw : List ℕ) (said : FileRecord) → is_in_use raw ≡ true → record_in raw ≡ Some said → tells_own n said.layout.number ≡ true
    → located_slot n (Some raw) ≡ sound_located said
raw-own n raw said is same own =
    raw-live n raw (Some said) is same ∙ ap (λ b. if b then sound_located said else unsound_located) own

-- ---- by its number

abbrev celled : ℕ → Slot (Located (Laid (List ℕ))) → Slot (Located (Laid (Cells ℕ)))
celled n slot = map_slot (on_payload (map_located (map_laid (cells_below n))) 0) slot

pub slot-mapped : {P Q : Type 0} (f : P → Q) (n r : ℕ) (slots : List (Slot P)) → slot_at (map_slots (on_payload f) n slots) r ≡ map_slot (on_payload f n) (slot_at slots r)
unfolding slot_at
slot-mapped f n r [] = refl
slot-mapped f n zero (s ∷ slots) = refl
slot-mapped f n (suc r) (s ∷ slots) = slot-mapped f (suc n) r slots

pub cells-at : (n r : ℕ) (slots : List (Slot (Located (Laid (List ℕ))))) → slot_at (with_cells n slots) r ≡ celled n (slot_at slots r)
unfolding with_cells
cells-at n r slots = slot-mapped (map_located (map_laid (cells_below n))) 0 r slots

faulty-readable : {P : Type 0} (n : ℕ) (slot : Slot P) (fault : VolumeFault) → IsFaulty n slot fault → is_readable slot ≡ false
faulty-readable n slot fault (inl absent) = rw absent.1 refl
faulty-readable n slot fault (inr wrong) = rw (wrong.1.0, wrong.1.1) refl

-- one that can't be read
pub unread : (g : Geometry) (m : Map) (f : ℕ → List ℕ) (n : ℕ) (fault : VolumeFault) → 0 < g.record_size → read_of g m f n ≡ Err fault → is_readable (slot_at (slots_of g m f) n) ≡ false
unread g m f n fault some read =
    ap (λ (s : Slot (Located (Laid (Cells ℕ)))). is_readable s) (sym (cells-at g.clusters n (slots_of g m f)))
    ∙ faulty-readable n (slot_at (with_cells g.clusters (slots_of g m f)) n) fault (slot-faulty g m f n fault some read)

-- ---- the record of a number

slot-from : {P : Type 0} (slot : ℕ → Slot P) (first count n : ℕ) → n < count → slot_at (slots_from slot first count) n ≡ slot (first + n)
unfolding slot_at slots_from
slot-from slot first zero n below = absurd (omega (arith, below))
slot-from slot first (suc count) zero below = let same : first ≡ first + 0 = omega arith in ap slot same
slot-from slot first (suc count) (suc n) below = let same : suc first + n ≡ first + suc n = omega arith in slot-from slot (suc first) count n (omega (arith, below)) ∙ ap slot same

slot-past : {P : Type 0} (slot : ℕ → Slot P) (first count n : ℕ) → count ≤ n → slot_at (slots_from slot first count) n ≡ idle false
unfolding slot_at slots_from
slot-past slot first zero n past = refl
slot-past slot first (suc count) zero past = absurd (omega (arith, past))
slot-past slot first (suc count) (suc n) past = slot-past slot (suc first) count n (omega (arith, past))

none-idle : (n : ℕ) → located_slot n None ≡ idle false
unfolding located_slot
none-idle n = refl

pub record-at : (o : Opened) (f : ℕ → List ℕ) (n : ℕ) → 0 < o.geometry.record_size → slot_at (slots_of o.geometry o.map f) n ≡ record_at o f n
unfolding slots_of
record-at o f n some = elim (cases_lt n (initialised_count o.geometry o.map)) [
  | inl below ↦ let same : 0 + n ≡ n = omega arith in slot-from (record_at o f) 0 (initialised_count o.geometry o.map) n below ∙ ap (record_at o f) same
  | inr past ↦ slot-past (record_at o f) 0 (initialised_count o.geometry o.map) n past ∙ sym (ap (located_slot n) (raw-past o.geometry o.map f n some past) ∙ none-idle n)
]

-- ---- rule C4

first-passes : {P : Type 0} (test : ℕ → Slot P → Bool) (n : ℕ) (s : Slot P) (rest : Option ℕ) → (if test n s then rest else Some n) ≡ None → (test n s ≡ true) × (rest ≡ None)
first-passes test n s rest = go (test n s)
  where
    go : (b : Bool) → (if b then rest else Some n) ≡ None → (b ≡ true) × (rest ≡ None)
    go true is = (refl, is)
    go false is = absurd cc

-- where no record is refused, each passes
pub each-passes : {P : Type 0} (test : ℕ → Slot P → Bool) (n r : ℕ) (slots : List (Slot P)) → first_not test n slots ≡ None → r < length slots → test (n + r) (slot_at slots r) ≡ true
unfolding slot_at
each-passes test n r [] none below = absurd (omega (arith, below))
each-passes test n zero (s ∷ slots) none below =
    let same : n + 0 ≡ n = omega arith in ap (λ k. test k s) same ∙ (first-passes test n s (first_not test (suc n) slots) none).0
each-passes test n (suc r) (s ∷ slots) none below =
    let same : n + suc r ≡ suc n + r = omega arith in
    ap (λ k. test k (slot_at slots r)) same ∙ each-passes test (suc n) r slots (first-passes test n s (first_not test (suc n) slots) none).1 (omega (arith, below))

whole-each : {P : Type 0} (n r : ℕ) (slots : List (Slot P)) → first_not (λ r s. is_whole s) n slots ≡ None → is_whole (slot_at slots r) ≡ true
unfolding slot_at
whole-each n r [] none = refl
whole-each {P = P} n zero (s ∷ slots) none = (first-passes {P = P} (λ r s. is_whole s) n s (first_not (λ r s. is_whole s) (suc n) slots) none).0
whole-each {P = P} n (suc r) (s ∷ slots) none = whole-each (suc n) r slots (first-passes {P = P} (λ r s. is_whole s) n s (first_not (λ r s. is_whole s) (suc n) slots) none).1

pub whole-at : {P : Type 0} (slots : List (Slot P)) (r : ℕ) → c4 slots ≡ None → is_whole (slot_at slots r) ≡ true
unfolding c4
whole-at slots r none = whole-each 0 r slots none

-- a whole record that can't be read isn't in use
pub unread-idle : {P : Type 0} (s : Slot P) → is_whole s ≡ true → is_readable s ≡ false → s.is_live ≡ false
unread-idle s whole unread = go s.is_live s.is_sound s.is_baad whole unread
  where
    go : (live sound baad : Bool) → (not baad && (not live || sound)) ≡ true → (live && sound) ≡ false → live ≡ false
    go false sound baad whole unread = refl
    go true false true whole unread = absurd cc
    go true false false whole unread = absurd cc
    go true true baad whole unread = absurd cc
