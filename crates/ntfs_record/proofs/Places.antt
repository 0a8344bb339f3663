-- How the places of attributes go on from one attribute to the next.
use Rattle.std.proofs.Common.{◌≡◌, ℕ, zero, suc, ◌+◌, ◌<◌, ◌≤◌, Bool, true, false, cond, List, [], ◌∷◌, Some, None, refl, sym, ap, ◌∙◌, arith, inl, inr}
use Rattle.ntfs_record.specs.Layout.{in_use_of, length_at}
use Rattle.ntfs_record.specs.Attribute.{is_sound, is_end, raw_at, IsSoundAt}
use Rattle.ntfs_record.specs.Parsing.{places_from, places_of, unsound_of, raws_of, IsSoundFrom}
use Rattle.ntfs_record.proofs.Sound.{sound_parts, sound_at, end_within, unsound_short, whether}

-- no list ends where no bytes are left
not_end : (used place : ℕ) (bytes : List ℕ) → used < place + 4 → is_end used place bytes ≡ false
not_end used place bytes short =
    elim (whether (is_end used place bytes)) [
      | inl e ↦ let h = (end_within used place bytes e).0 in absurd (omega arith)
      | inr e ↦ e
    ]

chosen : (e s : Bool) (place : ℕ) (front rest : List ℕ) → (s ≡ true → front ≡ rest)
    → cond e [] (cond s (place ∷ front) (place ∷ [])) ≡ cond e [] (cond s (place ∷ rest) (place ∷ []))
chosen true s place front rest same = refl
chosen false true place front rest same = ap (λ (ps : List ℕ). place ∷ ps) (same refl)
chosen false false place front rest same = refl

-- past the bytes in use there is one place, and the attribute there isn't sound
places-past : (most used : ℕ) (bytes : List ℕ) (place : ℕ) → used ≤ place
    → places_from most used bytes place ≡ place ∷ []
unfolding places_from
places-past zero used bytes place past = refl
places-past (suc most) used bytes place past =
    let no : is_end used place bytes ≡ false = not_end used place bytes (omega arith) in
    let bad : is_sound used place bytes ≡ false = unsound_short used place bytes (omega arith) in
    rw (no, bad) refl

-- any count that reaches the bytes in use gives the same places
pub places-same : (most more used : ℕ) (bytes : List ℕ) (place : ℕ) → used ≤ place + most → used ≤ place + more
    → places_from most used bytes place ≡ places_from more used bytes place
unfolding places_from
places-same zero more used bytes place h k = sym (places-past more used bytes place (omega arith))
places-same (suc most) zero used bytes place h k = places-past (suc most) used bytes place (omega arith)
places-same (suc most) (suc more) used bytes place h k =
    chosen (is_end used place bytes) (is_sound used place bytes) place _ _
    (λ s. let p = (sound_parts used place bytes s).length in
    places-same most more used bytes (place + length_at place bytes) (omega arith) (omega arith))

-- at the end of the list there are no more places
from-end : (most used : ℕ) (bytes : List ℕ) (place : ℕ) → used ≤ place + most → is_end used place bytes ≡ true
    → places_from most used bytes place ≡ []
unfolding places_from
from-end zero used bytes place h e = let p = (end_within used place bytes e).0 in absurd (omega arith)
from-end (suc most) used bytes place h e = rw e refl

-- where an attribute isn't sound the places end with it
from-unsound : (most used : ℕ) (bytes : List ℕ) (place : ℕ) → is_end used place bytes ≡ false
    → is_sound used place bytes ≡ false → places_from most used bytes place ≡ place ∷ []
unfolding places_from
from-unsound zero used bytes place e s = refl
from-unsound (suc most) used bytes place e s = rw (e, s) refl

-- behind a sound attribute they go on at its end
from-sound : (most used : ℕ) (bytes : List ℕ) (place : ℕ) → used ≤ place + most → is_end used place bytes ≡ false
    → is_sound used place bytes ≡ true
    → places_from most used bytes place ≡ place ∷ places_from most used bytes (place + length_at place bytes)
unfolding places_from
from-sound zero used bytes place h e s = let p = (sound_parts used place bytes s).length in absurd (omega arith)
from-sound (suc most) used bytes place h e s =
    let p = (sound_parts used place bytes s).length in
    let same = places-same most (suc most) used bytes (place + length_at place bytes) (omega arith) (omega arith) in
    rw (e, s) (ap (λ (ps : List ℕ). place ∷ ps) same)

-- ---- the places of a record

pub places_of-end : (bytes : List ℕ) (place : ℕ) → is_end (in_use_of bytes) place bytes ≡ true
    → places_of bytes place ≡ []
unfolding places_of
places_of-end bytes place e = from-end (in_use_of bytes) (in_use_of bytes) bytes place (omega arith) e

pub places_of-unsound : (bytes : List ℕ) (place : ℕ) → is_end (in_use_of bytes) place bytes ≡ false
    → is_sound (in_use_of bytes) place bytes ≡ false → places_of bytes place ≡ place ∷ []
unfolding places_of
places_of-unsound bytes place e s = from-unsound (in_use_of bytes) (in_use_of bytes) bytes place e s

pub places_of-sound : (bytes : List ℕ) (place : ℕ) → is_end (in_use_of bytes) place bytes ≡ false
    → is_sound (in_use_of bytes) place bytes ≡ true
    → places_of bytes place ≡ place ∷ places_of bytes (place + length_at place bytes)
unfolding places_of
places_of-sound bytes place e s = from-sound (in_use_of bytes) (in_use_of bytes) bytes place (omega arith) e s

-- ---- the first place that isn't sound

pub unsound_of-end : (bytes : List ℕ) (place : ℕ) → is_end (in_use_of bytes) place bytes ≡ true
    → unsound_of bytes place ≡ None
unfolding unsound_of
unsound_of-end bytes place e = rw (places_of-end bytes place e) refl

pub unsound_of-unsound : (bytes : List ℕ) (place : ℕ) → is_end (in_use_of bytes) place bytes ≡ false
    → is_sound (in_use_of bytes) place bytes ≡ false → unsound_of bytes place ≡ Some place
unfolding unsound_of
unsound_of-unsound bytes place e s = rw (places_of-unsound bytes place e s, s) refl

pub unsound_of-sound : (bytes : List ℕ) (place : ℕ) → is_end (in_use_of bytes) place bytes ≡ false
    → is_sound (in_use_of bytes) place bytes ≡ true
    → unsound_of bytes place ≡ unsound_of bytes (place + length_at place bytes)
unfolding unsound_of
unsound_of-sound bytes place e s = rw (places_of-sound bytes place e s, s) refl

-- where nothing is wrong from a place on, the list ends there or the attribute there is sound
pub none_unsound : (bytes : List ℕ) (place : ℕ) → unsound_of bytes place ≡ None
    → is_end (in_use_of bytes) place bytes ≡ false → is_sound (in_use_of bytes) place bytes ≡ true
none_unsound bytes place none e =
    elim (whether (is_sound (in_use_of bytes) place bytes)) [
      | inl s ↦ s
      | inr s ↦ let some = unsound_of-unsound bytes place e s in absurd (some_none place (sym some ∙ none))
    ]
  where
    some_none : (p : ℕ) → Some p ≡ None → ⊥
    some_none p h = cc

-- ---- the attributes' own bytes

pub raws_of-end : (bytes : List ℕ) (place : ℕ) → is_end (in_use_of bytes) place bytes ≡ true → raws_of bytes place ≡ []
unfolding raws_of
raws_of-end bytes place e = rw (places_of-end bytes place e) refl

pub raws_of-sound : (bytes : List ℕ) (place : ℕ) → is_end (in_use_of bytes) place bytes ≡ false
    → is_sound (in_use_of bytes) place bytes ≡ true
    → raws_of bytes place ≡ raw_at bytes place ∷ raws_of bytes (place + length_at place bytes)
unfolding raws_of
raws_of-sound bytes place e s = rw (places_of-sound bytes place e s) refl

-- ---- a step of the iterator

pub record Step (bytes : List ℕ) (place : ℕ) : Type 0 where
  pub sound : IsSoundAt (in_use_of bytes) place bytes
  pub rest : IsSoundFrom bytes (place + length_at place bytes)
  pub raws : raws_of bytes place ≡ raw_at bytes place ∷ raws_of bytes (place + length_at place bytes)

pub step : (bytes : List ℕ) (place : ℕ) → IsSoundFrom bytes place → is_end (in_use_of bytes) place bytes ≡ false
    → Step bytes place
step bytes place from e =
    let s = none_unsound bytes place from.attributes e in
    let sound = sound_at (in_use_of bytes) place bytes s in
    let goes = unsound_of-sound bytes place e s in
    record {
      sound = sound;
      rest = record { header = from.header; within = omega arith; attributes = sym goes ∙ from.attributes };
      raws = raws_of-sound bytes place e s;
    }
