-- The maps over the records by their number, for payloads of every type.
use Rattle.std.proofs.Common.{◌≡◌, ℕ, suc, Bool, true, false, cond, List, [], ◌∷◌, Option, Some, None, Result, Ok, Err, map, take, refl, sym, ap, ◌∙◌, arith, inl, inr}
use Rattle.std.specs.Prelude.{codes, slice_index, is_err, MatchResult}
use Rattle.std.proofs.lemmas.Bool.{and_parts}
use Rattle.std.proofs.lemmas.Bool.Decides.{Decides-eqb}
use Rattle.std.proofs.lemmas.Slice.Eq.{slice_eq-Decides}
use Rattle.ntfs_fixup.specs.Fixups.{unfix_of}
use Rattle.ntfs_fixup.specs.declared.header.Magic.TheVariants.{File}
use Rattle.ntfs_fixup.specs.declared.unfixing.FixFault.{FixFault}
use Rattle.ntfs_record.specs.FileRecord.{Attribute, Laid, Head, FileRecord}
use Rattle.ntfs_record.specs.Header.{begins_file}
use Rattle.ntfs_record.specs.Parsing.{parse_of}
use Rattle.ntfs_record.specs.Slots.{Slot, begins_baad, is_in_use, if_parsed, record_in, tells_own, idle_slot, unsound_slot, sound_slot, live_slot, slot_of, map_slot, map_slots, first_not}
use Rattle.ntfs_record.proofs.Sound.{whether}
use Rattle.ntfs_record.proofs.RecordLemmas.{magic_is}

map-map : {A B C : Type 0} (f : A → B) (g : B → C) (xs : List A) → map g (map f xs) ≡ map (λ x. g (f x)) xs
map-map f g [] = refl
map-map {C = C} f g (x ∷ xs) = ap (λ (rest : List C). g (f x) ∷ rest) (map-map f g xs)

map-agree : {A B : Type 0} (f g : A → B) (xs : List A) → ((x : A) → f x ≡ g x) → map f xs ≡ map g xs
map-agree f g [] agree = refl
map-agree {B = B} f g (x ∷ xs) agree =
    ap (λ (y : B). y ∷ map f xs) (agree x) ∙ ap (λ (rest : List B). g x ∷ rest) (map-agree f g xs agree)

-- a record with these attributes in place of its own
abbrev with_attributes : {P Q : Type 0} → Slot P → List (Attribute Q) → Slot Q
with_attributes s attributes = record {
  is_live = s.is_live;
  is_sound = s.is_sound;
  is_baad = s.is_baad;
  head = s.head;
  attributes = attributes;
}

-- two maps are the map of the composition
pub map_slots-map_slots : {P Q R : Type 0} (f : ℕ → Head → Attribute P → Attribute Q)
    (g : ℕ → Head → Attribute Q → Attribute R)
    (n : ℕ) (slots : List (Slot P)) → map_slots g n (map_slots f n slots) ≡ map_slots (λ r h a. g r h (f r h a)) n slots
map_slots-map_slots f g n [] = refl
map_slots-map_slots {R = R} f g n (s ∷ slots) =
    ap (λ (a : List (Attribute R)). with_attributes s a ∷ map_slots g (suc n) (map_slots f (suc n) slots))
    (map-map (f n s.head) (g n s.head) s.attributes)
    ∙ ap (λ (rest : List (Slot R)). map_slot (λ h a. g n h (f n h a)) s ∷ rest) (map_slots-map_slots f g (suc n) slots)

-- functions that agree give the same
pub map_slots-agree : {P Q : Type 0} (f g : ℕ → Head → Attribute P → Attribute Q) (n : ℕ) (slots : List (Slot P))
    → ((r : ℕ) (h : Head) (a : Attribute P) → f r h a ≡ g r h a) → map_slots f n slots ≡ map_slots g n slots
map_slots-agree f g n [] agree = refl
map_slots-agree {Q = Q} f g n (s ∷ slots) agree =
    ap (λ (a : List (Attribute Q)). with_attributes s a ∷ map_slots f (suc n) slots)
    (map-agree (f n s.head) (g n s.head) s.attributes (agree n s.head))
    ∙ ap (λ (rest : List (Slot Q)). map_slot (g n) s ∷ rest) (map_slots-agree f g (suc n) slots agree)

-- the first record that a test refuses has the same number behind a map, where the test there says the same
pub first_not-map : {P Q : Type 0} (f : ℕ → Head → Attribute P → Attribute Q) (test : ℕ → Slot P → Bool)
    (other : ℕ → Slot Q → Bool) (n : ℕ) (slots : List (Slot P))
    → ((r : ℕ) (s : Slot P) → other r (map_slot (f r) s) ≡ test r s)
    → first_not other n (map_slots f n slots) ≡ first_not test n slots
first_not-map f test other n [] same = refl
first_not-map f test other n (s ∷ slots) same =
    ap (λ (b : Bool). cond b (first_not other (suc n) (map_slots f (suc n) slots)) (Some n)) (same n s)
    ∙ ap (λ (rest : Option ℕ). cond (test n s) rest (Some n)) (first_not-map f test other (suc n) slots same)

-- ---- the record of a number, by its bytes

pub slot-idle : (n : ℕ) (raw : List ℕ) → is_in_use raw ≡ false → slot_of n (Some raw) ≡ idle_slot (begins_baad raw)
unfolding slot_of
slot-idle n raw idle = rw idle refl

pub slot-live : (n : ℕ) (raw : List ℕ) → is_in_use raw ≡ true → slot_of n (Some raw) ≡ live_slot n (record_in raw)
unfolding slot_of
slot-live n raw live = rw live refl

pub slot-other : (n : ℕ) (raw : List ℕ) (r : FileRecord) → is_in_use raw ≡ true → record_in raw ≡ Some r
    → tells_own n r.layout.number ≡ false → slot_of n (Some raw) ≡ unsound_slot
slot-other n raw r live said other =
    slot-live n raw live ∙ ap (live_slot n) said
    ∙ ap (λ (b : Bool). cond b (sound_slot r) unsound_slot) other

pub slot-own : (n : ℕ) (raw : List ℕ) (r : FileRecord) → is_in_use raw ≡ true → record_in raw ≡ Some r
    → tells_own n r.layout.number ≡ true → slot_of n (Some raw) ≡ sound_slot r
slot-own n raw r live said own =
    slot-live n raw live ∙ ap (live_slot n) said
    ∙ ap (λ (b : Bool). cond b (sound_slot r) unsound_slot) own

-- bytes that begin with FILE don't begin with BAAD
baad_is : (raw : List ℕ) → begins_baad raw ≡ true → take 4 raw ≡ codes "BAAD"
unfolding begins_baad
baad_is raw e = sym ((slice_eq-Decides Decides-eqb (codes "BAAD") (take 4 raw) (begins_baad raw) refl).0 e)

not_both : (raw : List ℕ) → begins_file raw ≡ true → begins_baad raw ≡ false
not_both raw file =
    elim (whether (begins_baad raw)) [
      | inl baad ↦
          let first : slice_index (codes "BAAD") 0 ≡ slice_index (codes "FILE") 0 =
          ap (λ (xs : List ℕ). slice_index xs 0) (sym (baad_is raw baad) ∙ magic_is raw file) in
          absurd (unlike first)
      | inr not ↦ not
    ]
  where
    unlike : slice_index (codes "BAAD") 0 ≡ slice_index (codes "FILE") 0 → ⊥
    unlike e = absurd (omega (arith, e))

in_use-file : (raw : List ℕ) → is_in_use raw ≡ true → begins_file raw ≡ true
unfolding is_in_use
in_use-file raw live = (and_parts _ _ live).0

live-baad : (n : ℕ) (said : Option FileRecord) → (live_slot n said).is_baad ≡ false
live-baad n None = refl
live-baad n (Some r) = own-baad (tells_own n r.layout.number) r
  where
    own-baad : (b : Bool) (r : FileRecord) → (cond b (sound_slot r) unsound_slot).is_baad ≡ false
    own-baad true r = refl
    own-baad false r = refl

pub slot-baad : (n : ℕ) (raw : List ℕ) → (slot_of n (Some raw)).is_baad ≡ begins_baad raw
slot-baad n raw =
    elim (whether (is_in_use raw)) [
      | inl live ↦
          ap (λ (s : Slot (Laid (List ℕ))). s.is_baad) (slot-live n raw live) ∙ live-baad n (record_in raw)
          ∙ sym (not_both raw (in_use-file raw live))
      | inr idle ↦ ap (λ (s : Slot (Laid (List ℕ))). s.is_baad) (slot-idle n raw idle)
    ]

-- ---- what unfixing in place gives

-- the bytes don't unfix
pub record-torn : (raw new : List ℕ) (result : Result (Unit {0}) FixFault)
    → MatchResult result (λ _. unfix_of File raw ≡ Ok new) (λ fault. unfix_of File raw ≡ Err fault)
    → is_err result ≡ true → record_in raw ≡ None
unfolding record_in
record-torn raw new (Ok x) exact is = absurd cc
record-torn raw new (Err fault) exact is = rw exact refl

-- they do
pub record-whole : (raw new : List ℕ) (result : Result (Unit {0}) FixFault)
    → MatchResult result (λ _. unfix_of File raw ≡ Ok new) (λ fault. unfix_of File raw ≡ Err fault)
    → is_err result ≡ false → record_in raw ≡ if_parsed (parse_of new)
unfolding record_in
record-whole raw new (Ok x) exact is = rw exact refl
record-whole raw new (Err fault) exact is = absurd cc
