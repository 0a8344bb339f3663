-- The relation for readers and the function that the code meets say the same.
use Rattle.std.proofs.Common.{◌≡◌, ℕ, zero, suc, ◌+◌, ◌≤◌, ◌≢◌, Bool, true, false, eqb, not, List, [], ◌∷◌, take, map, Option, Some, None, Result, Ok, Err, refl, sym, ap, ◌∙◌, subst, arith, inl, inr, ◌⊎◌}
use Rattle.std.specs.Prelude.{codes, IfOk, IfErr}
use Rattle.std.specs.List.{find}
use Rattle.std.proofs.lemmas.Bool.{leb-true, eqb-false, and_from, or_left, or_right, le-leb, eq-eqb}
use Rattle.std.proofs.lemmas.Bool.Decides.{Decides-eqb}
use Rattle.std.proofs.lemmas.Slice.Eq.{slice_eq-Decides}
use Rattle.ntfs_base.specs.Frames.{◌>>=◌}
use Rattle.ntfs_record.specs.declared.fault.RecordFault.{RecordFault}
use Rattle.ntfs_record.specs.declared.fault.RecordFault.TheVariants.{BadHeader, BadAttribute}
use Rattle.ntfs_record.specs.Layout.{first_attribute_of, in_use_of, kind_at, length_at, name_units_at}
use Rattle.ntfs_record.specs.FileRecord.{FileRecord}
use Rattle.ntfs_record.specs.Header.{begins_file, has_size, has_room, has_first, header_fault_of}
use Rattle.ntfs_record.specs.Attribute.{least_length_at, has_length, has_name_inside, has_value, has_runs, has_body, is_sound, is_end, end_kind, raw_at, IsSoundAt}
use Rattle.ntfs_record.specs.Parsing.{unless_found, parse_of, record_of, places_from, places_of, unsound_of, raws_of}
use Rattle.ntfs_record.specs.IsRecord.{IsSoundHeader, EndsAt, Follow, AreRaws, IsRecord, AttributeBreaksAt, HasRecordCause}
use Rattle.ntfs_record.proofs.Sound.{all_pass, sound_header, whether, sound_at, end_within, unsound_short}
use Rattle.ntfs_record.proofs.Places.{unsound_of-end, unsound_of-sound, unsound_of-unsound, raws_of-end, raws_of-sound}

-- ---- the test from the plain facts

-- the non-resident byte is 0 or 1
pub either : (n : ℕ) → n ≤ 1 → (n ≡ 0) ⊎ (n ≡ 1)
either zero h = inl refl
either (suc zero) h = inr refl
either (suc (suc n)) h = absurd (omega arith)

least_from : (used place : ℕ) (bytes : List ℕ) → IsSoundAt used place bytes
    → least_length_at place bytes ≤ length_at place bytes
least_from used place bytes s =
    elim (either _ s.residence) [
      | inl is ↦ rw is s.more
      | inr is ↦ rw is (s.runs is).fields
    ]

name_from : (used place : ℕ) (bytes : List ℕ) → IsSoundAt used place bytes → has_name_inside place bytes ≡ true
unfolding has_name_inside
name_from used place bytes s =
    elim (whether (eqb (name_units_at place bytes) 0)) [
      | inl none ↦ or_left _ _ none
      | inr some ↦
          let units : name_units_at place bytes ≢ 0 = eqb-false _ _ some in
          or_right _ _ (le-leb _ _ (s.name (omega arith)))
    ]

body_from : (used place : ℕ) (bytes : List ℕ) → IsSoundAt used place bytes → has_body place bytes ≡ true
unfolding has_value has_runs
body_from used place bytes s =
    elim (either _ s.residence) [
      | inl is ↦
          let v = s.resident is in
          let value : has_value place bytes ≡ true = and_from _ _ (le-leb _ _ v.begins) (le-leb _ _ v.ends) in
          rw is value
      | inr is ↦
          let r = s.runs is in
          let runs : has_runs place bytes ≡ true =
          and_from _ _ (le-leb _ _ r.begins)
          (and_from _ _ (le-leb _ _ r.ends)
          (and_from _ _ (le-leb _ _ r.lowest) (and_from _ _ (le-leb _ _ r.next) (le-leb _ _ r.highest)))) in
          rw is runs
    ]

pub sound_from : (used place : ℕ) (bytes : List ℕ) → IsSoundAt used place bytes → is_sound used place bytes ≡ true
unfolding is_sound has_length
sound_from used place bytes s =
    let fits : has_length used place bytes ≡ true =
    and_from _ _ (eq-eqb _ _ s.aligned)
    (and_from _ _ (le-leb _ _ (least_from used place bytes s)) (le-leb _ _ s.ends)) in
    and_from _ _ fits
    (and_from _ _ (le-leb _ _ s.residence) (and_from _ _ (name_from used place bytes s) (body_from used place bytes s)))

-- ---- the end of the list

pub ends_at : (used place : ℕ) (bytes : List ℕ) → is_end used place bytes ≡ true → EndsAt used place bytes
ends_at used place bytes e = let h = end_within used place bytes e in record { room = h.0; kind = h.1 }

pub end_from : (used place : ℕ) (bytes : List ℕ) → EndsAt used place bytes → is_end used place bytes ≡ true
unfolding is_end
end_from used place bytes h = and_from _ _ (le-leb _ _ h.room) (eq-eqb _ _ h.kind)

pub not_ends : (used place : ℕ) (bytes : List ℕ) → is_end used place bytes ≡ false → EndsAt used place bytes → ⊥
not_ends used place bytes e h = let t = end_from used place bytes h in absurd cc

-- where four bytes are left and the list doesn't end, the type is another
pub other_kind : (used place : ℕ) (bytes : List ℕ) → IsSoundAt used place bytes → is_end used place bytes ≡ false
    → kind_at place bytes ≢ end_kind
other_kind used place bytes s e kind =
    not_ends used place bytes e (record { room = omega (arith, s.ends); kind = kind })

pub not_end_from : (used place : ℕ) (bytes : List ℕ) → kind_at place bytes ≢ end_kind → is_end used place bytes ≡ false
not_end_from used place bytes other =
    elim (whether (is_end used place bytes)) [ inl e ↦ absurd (other (end_within used place bytes e).1) | inr e ↦ e ]

-- ---- the attributes that the function gives stand in the bytes

abbrev unsound : ℕ → List ℕ → ℕ → Bool
unsound used bytes place = not (is_sound used place bytes)

none_some : (p : ℕ) → None ≡ Some p → ⊥
none_some p h = cc

pub record Walked (used : ℕ) (bytes : List ℕ) (place : ℕ) (raws : List (List ℕ)) : Type 0 where
  pub last : ℕ
  pub follow : Follow used bytes place raws last
  pub ends : EndsAt used last bytes

walked : (most used : ℕ) (bytes : List ℕ) (place : ℕ) → used ≤ place + most
    → find (unsound used bytes) (places_from most used bytes place) ≡ None
    → Walked used bytes place (map (raw_at bytes) (places_from most used bytes place))
unfolding places_from
walked zero used bytes place h none =
    let bad : is_sound used place bytes ≡ false = unsound_short used place bytes (omega arith) in
    absurd (none_some place (sym (rw bad at none)))
walked (suc most) used bytes place h none =
    elim (whether (is_end used place bytes)) [
      | inl e ↦ rw e (record { last = place; follow = refl; ends = ends_at used place bytes e })
      | inr e ↦
          elim (whether (is_sound used place bytes)) [
            | inl s ↦
                let sound = sound_at used place bytes s in
                let rest : find (unsound used bytes)
                (places_from most used bytes (place + length_at place bytes)) ≡ None = rw (e, s, s) at none in
                let w =
                walked most used bytes (place + length_at place bytes) (omega (arith, sound.ends, sound.more)) rest in
                rw (e, s)
                (record {
                  last = w.last;
                  follow = (sound, other_kind used place bytes sound e, refl, w.follow);
                  ends = w.ends;
                })
            | inr s ↦ absurd (none_some place (sym (rw (e, s, s) at none)))
          ]
    ]

pub raws_are : (bytes : List ℕ) (place : ℕ) → unsound_of bytes place ≡ None → AreRaws bytes place (raws_of bytes place)
unfolding unsound_of raws_of places_of
raws_are bytes place none =
    let w = walked (in_use_of bytes) (in_use_of bytes) bytes place (omega arith) none in
    record { last = w.last; follow = w.follow; ends = w.ends }

-- ---- attributes that stand in the bytes are those that the function gives

pub record Found (bytes : List ℕ) (place : ℕ) (raws : List (List ℕ)) : Type 0 where
  pub none : unsound_of bytes place ≡ None
  pub given : raws_of bytes place ≡ raws

pub found_from : (bytes : List ℕ) (place : ℕ) (raws : List (List ℕ)) (last : ℕ)
    → Follow (in_use_of bytes) bytes place raws last → EndsAt (in_use_of bytes) last bytes → Found bytes place raws
found_from bytes place [] last follow ends =
    let here : EndsAt (in_use_of bytes) place bytes =
    subst (λ (p : ℕ). EndsAt (in_use_of bytes) p bytes) (sym follow) ends in
    let e = end_from (in_use_of bytes) place bytes here in
    record { none = unsound_of-end bytes place e; given = raws_of-end bytes place e }
found_from bytes place (raw ∷ raws) last follow ends =
    let s = sound_from (in_use_of bytes) place bytes follow.0 in
    let e = not_end_from (in_use_of bytes) place bytes follow.1 in
    let rest = found_from bytes (place + length_at place bytes) raws last follow.3 ends in
    let first : raw_at bytes place ∷ raws_of bytes (place + length_at place bytes) ≡ raw ∷ raws =
    rw (rest.given, ← follow.2) refl in
    record { none = unsound_of-sound bytes place e s ∙ rest.none; given = raws_of-sound bytes place e s ∙ first }

-- ---- the first place at which the attribute isn't sound

pub record Broken (used : ℕ) (bytes : List ℕ) (place bad : ℕ) : Type 0 where
  pub raws : List (List ℕ)
  pub follow : Follow used bytes place raws bad
  pub goes_on : ¬ EndsAt used bad bytes
  pub unsound : ¬ IsSoundAt used bad bytes

broken_here : (used : ℕ) (bytes : List ℕ) (place bad : ℕ) → is_end used place bytes ≡ false
    → is_sound used place bytes ≡ false → Some place ≡ Some bad → Broken used bytes place bad
broken_here used bytes place bad e s is =
    let same : place ≡ bad = cc in
    let no_end : ¬ EndsAt used place bytes = not_ends used place bytes e in
    let no_part : ¬ IsSoundAt used place bytes = λ h. let t = sound_from used place bytes h in absurd cc in
    subst (λ (p : ℕ). Broken used bytes place p) same
    (record { raws = []; follow = refl; goes_on = no_end; unsound = no_part })

short_end : (used place : ℕ) (bytes : List ℕ) → used ≤ place → is_end used place bytes ≡ false
short_end used place bytes past =
    elim (whether (is_end used place bytes)) [
      | inl e ↦ let h = (end_within used place bytes e).0 in absurd (omega arith)
      | inr e ↦ e
    ]

broken : (most used : ℕ) (bytes : List ℕ) (place bad : ℕ) → used ≤ place + most
    → find (unsound used bytes) (places_from most used bytes place) ≡ Some bad → Broken used bytes place bad
unfolding places_from
broken zero used bytes place bad h some =
    let s : is_sound used place bytes ≡ false = unsound_short used place bytes (omega arith) in
    broken_here used bytes place bad (short_end used place bytes (omega arith)) s (rw s at some)
broken (suc most) used bytes place bad h some =
    elim (whether (is_end used place bytes)) [
      | inl e ↦ absurd (none_some bad (rw e at some))
      | inr e ↦
          elim (whether (is_sound used place bytes)) [
            | inl s ↦
                let sound = sound_at used place bytes s in
                let rest : find (unsound used bytes)
                (places_from most used bytes (place + length_at place bytes)) ≡ Some bad = rw (e, s, s) at some in
                let w =
                broken most used bytes (place + length_at place bytes) bad
                (omega (arith, sound.ends, sound.more)) rest in
                record {
                  raws = raw_at bytes place ∷ w.raws;
                  follow =
                      (sound, other_kind used place bytes sound e, refl, w.follow);
                  goes_on = w.goes_on;
                  unsound = w.unsound;
                }
            | inr s ↦ broken_here used bytes place bad e s (rw (e, s, s) at some)
          ]
    ]

pub breaks_at : (bytes : List ℕ) (place bad : ℕ) → unsound_of bytes place ≡ Some bad → AttributeBreaksAt bytes place bad
unfolding unsound_of places_of
breaks_at bytes place bad some =
    let w = broken (in_use_of bytes) (in_use_of bytes) bytes place bad (omega arith) some in
    record { raws = w.raws; follow = w.follow; goes_on = w.goes_on; unsound = w.unsound }

-- ---- the header

pub magic_is : (bytes : List ℕ) → begins_file bytes ≡ true → take 4 bytes ≡ codes "FILE"
unfolding begins_file
magic_is bytes e = sym ((slice_eq-Decides Decides-eqb (codes "FILE") (take 4 bytes) (begins_file bytes) refl).0 e)

magic_from : (bytes : List ℕ) → take 4 bytes ≡ codes "FILE" → begins_file bytes ≡ true
unfolding begins_file
magic_from bytes is = (slice_eq-Decides Decides-eqb (codes "FILE") (take 4 bytes) (begins_file bytes) refl).1 (sym is)

pub header_is : (bytes : List ℕ) → header_fault_of bytes ≡ None → IsSoundHeader bytes
unfolding header_fault_of has_room
header_is bytes none =
    let p = all_pass (begins_file bytes) (has_size bytes) (has_room bytes) (has_first bytes) none in
    let h = sound_header bytes none in
    record {
      magic = magic_is bytes p.0;
      fields = omega (arith, h.long);
      allocated = h.allocated;
      in_use = leb-true _ _ p.2;
      aligned = h.aligned;
      behind_array = h.behind_array;
      behind_header = h.behind_header;
      before_end = h.first;
    }

pub header_from : (bytes : List ℕ) → IsSoundHeader bytes → header_fault_of bytes ≡ None
unfolding header_fault_of has_size has_room has_first
header_from bytes h =
    let magic = magic_from bytes h.magic in
    let size : has_size bytes ≡ true = and_from _ _ (le-leb _ _ h.fields) (eq-eqb _ _ h.allocated) in
    let room : has_room bytes ≡ true = le-leb _ _ h.in_use in
    let first : has_first bytes ≡ true =
    and_from _ _ (eq-eqb _ _ h.aligned)
    (and_from _ _ (le-leb _ _ h.behind_array) (and_from _ _ (le-leb _ _ h.behind_header) (le-leb _ _ h.before_end))) in
    rw (magic, size, room, first) refl

-- ---- the whole record

-- what the two searches found, and what is answered then
abbrev answered : Option ℕ → Option ℕ → FileRecord → Result FileRecord RecordFault
answered h u r = unless_found h BadHeader >>= (λ _. unless_found u BadAttribute >>= (λ _. Ok r))

ok_answered : (h u : Option ℕ) (r seen : FileRecord) → answered h u r ≡ Ok seen → (h ≡ None) × (u ≡ None) × (r ≡ seen)
ok_answered (Some f) u r seen e = absurd cc
ok_answered None (Some p) r seen e = absurd cc
ok_answered None None r seen e = (refl, refl, cc)

-- the attributes' own bytes of the record that the bytes say
pub raws_of-record : (bytes : List ℕ) → raws_of bytes (first_attribute_of bytes) ≡ (record_of bytes).raws
unfolding record_of
raws_of-record bytes = refl

-- what the function gives is a record
pub record_is : (bytes : List ℕ) (r : FileRecord) → parse_of bytes ≡ Ok r → IsRecord bytes r
unfolding parse_of record_of
record_is bytes r e =
    let j = ok_answered (header_fault_of bytes) (unsound_of bytes (first_attribute_of bytes)) (record_of bytes) r e in
    subst (IsRecord bytes) j.2
    (record {
      header = header_is bytes j.0;
      head = refl;
      layout = refl;
      attributes = raws_are bytes
          (first_attribute_of bytes) j.1;
    })

-- a record is what the function gives
pub record_from : (bytes : List ℕ) (r : FileRecord) → IsRecord bytes r → parse_of bytes ≡ Ok r
unfolding parse_of record_of
record_from bytes r is =
    let header = header_from bytes is.header in
    let found =
    found_from bytes (first_attribute_of bytes) r.raws is.attributes.last is.attributes.follow is.attributes.ends in
    let same : record_of bytes ≡ r = rw (found.given, ← is.head, ← is.layout) refl in
    rw (header, found.none) (ap Ok same)

header_cause : (bytes : List ℕ) (field : ℕ) → header_fault_of bytes ≡ Some field
    → HasRecordCause bytes (BadHeader field)
unfolding header_fault_of
header_cause bytes field h = h

caused : (bytes : List ℕ) (h u : Option ℕ) (r : FileRecord) (f : RecordFault) → header_fault_of bytes ≡ h
    → unsound_of bytes (first_attribute_of bytes) ≡ u → answered h u r ≡ Err f → HasRecordCause bytes f
caused bytes (Some field) u r (BadHeader g) hi ui e = header_cause bytes g (hi ∙ cc)
caused bytes (Some field) u r (BadAttribute g) hi ui e = absurd cc
caused bytes None (Some place) r (BadHeader g) hi ui e = absurd cc
caused bytes None (Some place) r (BadAttribute g) hi ui e =
    (header_is bytes hi, breaks_at bytes (first_attribute_of bytes) g (ui ∙ cc))
caused bytes None None r f hi ui e = absurd cc

-- a fault that the function gives has its cause
pub fault_is : (bytes : List ℕ) (fault : RecordFault) → parse_of bytes ≡ Err fault → HasRecordCause bytes fault
unfolding parse_of
fault_is bytes fault e =
    caused bytes (header_fault_of bytes) (unsound_of bytes (first_attribute_of bytes))
    (record_of bytes) fault refl refl e

-- ---- the cause gives the fault

unsound_from : (bytes : List ℕ) (place : ℕ) (raws : List (List ℕ)) (bad : ℕ)
    → Follow (in_use_of bytes) bytes place raws bad → (EndsAt (in_use_of bytes) bad bytes → ⊥)
    → (IsSoundAt (in_use_of bytes) bad bytes → ⊥) → unsound_of bytes place ≡ Some bad
unsound_from bytes place [] bad follow goes_on no_part =
    let e : is_end (in_use_of bytes) bad bytes ≡ false =
    elim (whether (is_end (in_use_of bytes) bad bytes)) [
      | inl t ↦ absurd
          (goes_on (ends_at (in_use_of bytes) bad bytes t))
      | inr f ↦ f
    ] in
    let s : is_sound (in_use_of bytes) bad bytes ≡ false =
    elim (whether (is_sound (in_use_of bytes) bad bytes)) [
      | inl t ↦ absurd
          (no_part (sound_at (in_use_of bytes) bad bytes t))
      | inr f ↦ f
    ] in
    ap (unsound_of bytes) follow ∙ unsound_of-unsound bytes bad e s
unsound_from bytes place (raw ∷ raws) bad follow goes_on no_part =
    let s = sound_from (in_use_of bytes) place bytes follow.0 in
    let e = not_end_from (in_use_of bytes) place bytes follow.1 in
    unsound_of-sound bytes place e s
    ∙ unsound_from bytes (place + length_at place bytes) raws bad follow.3 goes_on no_part

header_fault_from : (bytes : List ℕ) (field : ℕ) → HasRecordCause bytes (BadHeader field)
    → header_fault_of bytes ≡ Some field
unfolding header_fault_of
header_fault_from bytes field h = h

-- a fault with its cause is the one that the function gives
pub fault_from : (bytes : List ℕ) (fault : RecordFault) → HasRecordCause bytes fault → parse_of bytes ≡ Err fault
unfolding parse_of
fault_from bytes (BadHeader field) cause = rw (header_fault_from bytes field cause) refl
fault_from bytes (BadAttribute place) cause =
    let header = header_from bytes cause.0 in
    let b = cause.1 in
    let unsound = unsound_from bytes (first_attribute_of bytes) b.raws place b.follow b.goes_on b.unsound in
    rw (header, unsound) refl

-- ---- what a call returned

abbrev pub Seen : Type 0
Seen = Result FileRecord RecordFault

pub found_lem : (bytes : List ℕ) (r : Seen) → r ≡ parse_of bytes → IfOk r (IsRecord bytes)
found_lem bytes (Ok x) e = record_is bytes x (sym e)
found_lem bytes (Err f) e = tt

pub cause_lem : (bytes : List ℕ) (r : Seen) → r ≡ parse_of bytes → IfErr r (HasRecordCause bytes)
cause_lem bytes (Ok x) e = tt
cause_lem bytes (Err f) e = fault_is bytes f (sym e)
