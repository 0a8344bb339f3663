-- Records that aren't in use mean nothing, and the flags of those that are say nothing.
use Rattle.std.proofs.Common.{◌≡◌, ◌||◌, ℕ, zero, suc, Bool, true, false, List, [], ◌∷◌, Option, Some, None, refl, ap, ◌∙◌, if◌then◌else◌}
use Rattle.std.specs.Prelude.{not}
use Rattle.std.specs.List.{AllByRecursion}
use Rattle.ntfs_meaning.proofs.ThereLemmas.{c4-clear, passed-step}
use Rattle.ntfs_meaning.specs.Meaning.{meaning}
use Rattle.ntfs_record.specs.FileRecord.{Attribute, FileRecord, Head}
use Rattle.ntfs_record.specs.Slots.{Slot, begins_baad, first_not, is_in_use, map_slot, map_slots, record_in, tells_own}
use Rattle.ntfs_rules.specs.Accepts.{fault_of}
use Rattle.ntfs_rules.specs.Records.{c4}
use Rattle.ntfs_rules.specs.VolumeData.{VolumeData, volume_data}
use Rattle.ntfs_survey.specs.Owned.{is_whole}
use Rattle.ntfs_volume.proofs.AnswerLemmas.{and-left, and-right}
use Rattle.ntfs_volume.specs.Located.{idle, live_located, located_slot, slot_at, slots_from, slots_of, sound_located, unsound_located, with_cells}
use Rattle.ntfs_volume.specs.Opened.{Opened}
use Rattle.ntfs_volume.specs.Records.{raw_record}

-- ---- a record that isn't in use is blank

abbrev IsBlank : {P : Type 0} → Slot P → Type 0
IsBlank s = s.is_live ≡ false → s ≡ idle s.is_baad

blank-own : (own : Bool) (file : FileRecord) → IsBlank (if own then sound_located file else unsound_located)
blank-own true file idles = absurd cc
blank-own false file idles = absurd cc

blank-said : (n : ℕ) (said : Option FileRecord) → IsBlank (live_located n said)
blank-said n None idles = absurd cc
blank-said n (Some file) idles = blank-own (tells_own n file.layout.number) file idles

blank-by : (live : Bool) (n : ℕ) (raw : List ℕ) → IsBlank (if live then live_located n (record_in raw) else idle (begins_baad raw))
blank-by true n raw idles = blank-said n (record_in raw) idles
blank-by false n raw idles = refl

blank-located : (n : ℕ) (raw : Option (List ℕ)) → IsBlank (located_slot n raw)
unfolding located_slot
blank-located n None idles = refl
blank-located n (Some raw) idles = blank-by (is_in_use raw) n raw idles

blank-from : {P : Type 0} (slot : ℕ → Slot P) (k count : ℕ) → ((i : ℕ) → IsBlank (slot i)) → AllByRecursion IsBlank (slots_from slot k count)
unfolding slots_from
blank-from slot k zero all = tt
blank-from slot k (suc count) all = (all k, blank-from slot (suc k) count all)

blank-map : {P Q : Type 0} (f : ℕ → Head → Attribute P → Attribute Q) (n : ℕ) (slots : List (Slot P)) → AllByRecursion IsBlank slots → AllByRecursion IsBlank (map_slots f n slots)
blank-map f n [] all = tt
blank-map f n (s ∷ slots) all = ((λ idles. ap (map_slot (f n)) (all.0 idles)), blank-map f (suc n) slots all.1)

blank-at : {P : Type 0} (slots : List (Slot P)) (n : ℕ) → AllByRecursion IsBlank slots → IsBlank (slot_at slots n)
unfolding slot_at
blank-at [] n all idles = refl
blank-at (s ∷ slots) zero all idles = all.0 idles
blank-at (s ∷ slots) (suc n) all idles = blank-at slots n all.1 idles

meant-blank : (o : Opened) (f : ℕ → List ℕ) (n : ℕ) → IsBlank (slot_at (meaning (volume_data o f)) n)
unfolding meaning volume_data with_cells slots_of
meant-blank o f n =
    blank-at (meaning (volume_data o f)) n (blank-map _ 0 _ (blank-map _ 0 _ (blank-map _ 0 _ (blank-map _ 0 _
    (blank-from (λ n. located_slot n (raw_record o.geometry o.map f n)) 0 _ (λ n. blank-located n (raw_record o.geometry o.map f n)))))))

-- ---- a record keeps rule C4

abbrev IsWholeSlot : {P : Type 0} → Slot P → Type 0
IsWholeSlot s = is_whole s ≡ true

whole-from : {P : Type 0} (n : ℕ) (slots : List (Slot P)) → first_not (λ r s. is_whole s) n slots ≡ None → AllByRecursion IsWholeSlot slots
whole-from n [] is = tt
whole-from n (s ∷ slots) is =
    let parts = passed-step (is_whole s) (first_not (λ r (t : Slot _). is_whole t) (suc n) slots) n is in
    (parts.0, whole-from (suc n) slots parts.1)

whole-map : {P Q : Type 0} (f : ℕ → Head → Attribute P → Attribute Q) (n : ℕ) (slots : List (Slot P)) → AllByRecursion IsWholeSlot slots → AllByRecursion IsWholeSlot (map_slots f n slots)
whole-map f n [] all = tt
whole-map f n (s ∷ slots) all = (all.0, whole-map f (suc n) slots all.1)

whole-at : {P : Type 0} (slots : List (Slot P)) (n : ℕ) → AllByRecursion IsWholeSlot slots → IsWholeSlot (slot_at slots n)
unfolding slot_at
whole-at [] n all = refl
whole-at (s ∷ slots) zero all = all.0
whole-at (s ∷ slots) (suc n) all = whole-at slots n all.1

meant-whole : (v : VolumeData) (n : ℕ) → fault_of v ≡ None → IsWholeSlot (slot_at (meaning v) n)
unfolding meaning c4
meant-whole v n is = whole-at (meaning v) n (whole-map _ 0 _ (whole-map _ 0 v.slots (whole-from 0 v.slots (c4-clear v is))))

-- ---- the flags

not-true : (b : Bool) → not b ≡ true → b ≡ false
not-true true is = absurd cc
not-true false is = refl

not-torn : {P : Type 0} (s : Slot P) → IsWholeSlot s → s.is_baad ≡ false
not-torn s is = not-true s.is_baad (and-left (not s.is_baad) (not s.is_live || s.is_sound) is)

sound-by : (live sound : Bool) → live ≡ true → (not live || sound) ≡ true → sound ≡ true
sound-by true sound lives is = is
sound-by false sound lives is = absurd cc

pub meant-idle : (o : Opened) (f : ℕ → List ℕ) (n : ℕ) → fault_of (volume_data o f) ≡ None → (slot_at (meaning (volume_data o f)) n).is_live ≡ false → slot_at (meaning (volume_data o f)) n ≡ idle false
meant-idle o f n is idles = meant-blank o f n idles ∙ ap (λ b. idle b) (not-torn (slot_at (meaning (volume_data o f)) n) (meant-whole (volume_data o f) n is))

pub meant-live : (o : Opened) (f : ℕ → List ℕ) (n : ℕ) → fault_of (volume_data o f) ≡ None → (slot_at (meaning (volume_data o f)) n).is_live ≡ true
    → ((slot_at (meaning (volume_data o f)) n).is_sound ≡ true) × ((slot_at (meaning (volume_data o f)) n).is_baad ≡ false)
meant-live o f n is lives =
    let s = slot_at (meaning (volume_data o f)) n in
    let whole = meant-whole (volume_data o f) n is in
    (sound-by s.is_live s.is_sound lives (and-right (not s.is_baad) (not s.is_live || s.is_sound) whole), not-torn s whole)
