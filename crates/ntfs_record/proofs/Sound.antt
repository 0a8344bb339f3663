-- What a header and an attribute with nothing wrong say in plain facts.
use Rattle.std.proofs.Common.{◌≡◌, ℕ, ◌+◌, ◌*◌, ◌%◌, ◌<◌, ◌≤◌, Bool, true, false, cond, leb, eqb, List, [], ◌∷◌, length, None, refl, arith, inl, inr, ◌⊎◌}
use Rattle.std.proofs.lemmas.Bool.{leb-true, eqb-true, and_parts, or_cases}
use Rattle.ntfs_base.specs.Checks.{check, first_wrong}
use Rattle.ntfs_record.specs.Layout.{array_offset, array_count, first_attribute_of, in_use_of, allocated_of, kind_at, length_at, non_resident_at, name_units_at, name_offset_at}
use Rattle.ntfs_record.specs.Header.{begins_file, has_size, has_room, has_first, header_fault_of}
use Rattle.ntfs_record.specs.Attribute.{is_resident_at, least_length_at, has_length, has_name_inside, has_value, has_runs, has_body, is_sound, is_end, end_kind, HasValue, HasRuns, IsSoundAt}

-- ---- the header

-- four tests in a row of which none fails
pub all_pass : (a b c d : Bool) → first_wrong {X = ℕ} (check a 1 ∷ check b 2 ∷ check c 3 ∷ check d 4 ∷ []) ≡ None
    → (a ≡ true) × (b ≡ true) × (c ≡ true) × (d ≡ true)
all_pass true true true true e = (refl, refl, refl, refl)
all_pass true true true false e = absurd cc
all_pass true true false d e = absurd cc
all_pass true false c d e = absurd cc
all_pass false b c d e = absurd cc

pub record SoundHeader (bytes : List ℕ) : Type 0 where
  pub long : 44 ≤ length bytes
  pub allocated : allocated_of bytes ≡ length bytes
  pub in_use : in_use_of bytes ≤ length bytes
  pub aligned : first_attribute_of bytes % 8 ≡ 0
  pub behind_array : array_offset bytes + 2 * array_count bytes ≤ first_attribute_of bytes
  pub behind_header : 40 ≤ first_attribute_of bytes
  pub first : first_attribute_of bytes + 4 ≤ in_use_of bytes

pub sound_header : (bytes : List ℕ) → header_fault_of bytes ≡ None → SoundHeader bytes
unfolding header_fault_of has_size has_room has_first
sound_header bytes e =
    let p = all_pass (begins_file bytes) (has_size bytes) (has_room bytes) (has_first bytes) e in
    let size = and_parts (leb 32 (length bytes)) (eqb (allocated_of bytes) (length bytes)) p.1 in
    let first = and_parts _ _ p.3 in
    let array = and_parts _ _ first.1 in
    let ends = and_parts _ _ array.1 in
    let allocated : allocated_of bytes ≡ length bytes = eqb-true _ _ size.1 in
    let room : in_use_of bytes ≤ allocated_of bytes = leb-true _ _ p.2 in
    let behind : 40 ≤ first_attribute_of bytes = leb-true _ _ ends.0 in
    let last : first_attribute_of bytes + 4 ≤ in_use_of bytes = leb-true _ _ ends.1 in
    record {
      long = omega arith;
      allocated = allocated;
      in_use = omega arith;
      aligned = eqb-true _ _ first.0;
      behind_array = leb-true _ _ array.0;
      behind_header = behind;
      first = last;
    }

-- ---- an attribute

-- the fields of an attribute with nothing wrong lie within it, and it lies before the last four bytes in use
pub record SoundLength (used place : ℕ) (bytes : List ℕ) : Type 0 where
  pub aligned : length_at place bytes % 8 ≡ 0
  pub least : least_length_at place bytes ≤ length_at place bytes
  pub more : 24 ≤ length_at place bytes
  pub within : place + length_at place bytes + 4 ≤ used

least_is : (b : Bool) → 24 ≤ cond b 24 64
least_is true = omega arith
least_is false = omega arith

pub sound_length : (used place : ℕ) (bytes : List ℕ) → has_length used place bytes ≡ true → SoundLength used place bytes
unfolding has_length
sound_length used place bytes e =
    let p = and_parts _ _ e in
    let q = and_parts _ _ p.1 in
    let least : least_length_at place bytes ≤ length_at place bytes = leb-true _ _ q.0 in
    let some : 24 ≤ least_length_at place bytes = least_is (is_resident_at place bytes) in
    record {
      aligned = eqb-true _ _ p.0;
      least = least;
      more = omega arith;
      within = leb-true _ _ q.1;
    }

-- the parts of the test
pub record SoundParts (used place : ℕ) (bytes : List ℕ) : Type 0 where
  pub length : SoundLength used place bytes
  pub residence : non_resident_at place bytes ≤ 1
  pub name : has_name_inside place bytes ≡ true
  pub body : has_body place bytes ≡ true

pub sound_parts : (used place : ℕ) (bytes : List ℕ) → is_sound used place bytes ≡ true → SoundParts used place bytes
unfolding is_sound
sound_parts used place bytes e =
    let p = and_parts _ _ e in
    let q = and_parts _ _ p.1 in
    let r = and_parts _ _ q.1 in
    record { length = sound_length used place bytes p.0; residence = leb-true _ _ q.0; name = r.0; body = r.1 }

pub whether : (b : Bool) → (b ≡ true) ⊎ (b ≡ false)
whether true = inl refl
whether false = inr refl

-- where too few bytes are left, the attribute isn't sound
pub unsound_short : (used place : ℕ) (bytes : List ℕ) → used < place + 28 → is_sound used place bytes ≡ false
unsound_short used place bytes short =
    elim (whether (is_sound used place bytes)) [
      | inl e ↦ let h = (sound_parts used place bytes e).length in absurd (omega arith)
      | inr e ↦ e
    ]

-- where the list ends, four bytes are left
pub end_within : (used place : ℕ) (bytes : List ℕ) → is_end used place bytes ≡ true
    → (place + 4 ≤ used) × (kind_at place bytes ≡ end_kind)
unfolding is_end
end_within used place bytes e = let p = and_parts _ _ e in (leb-true _ _ p.0, eqb-true _ _ p.1)

-- ---- the test and the plain facts

sound_name : (place : ℕ) (bytes : List ℕ) → has_name_inside place bytes ≡ true → 0 < name_units_at place bytes
    → name_offset_at place bytes + 2 * name_units_at place bytes ≤ length_at place bytes
unfolding has_name_inside
sound_name place bytes e some =
    elim (or_cases _ _ e) [
      | inl none ↦ let h : name_units_at place bytes ≡ 0 = eqb-true _ _ none in absurd (omega arith)
      | inr within ↦ leb-true _ _ within
    ]

sound_value : (used place : ℕ) (bytes : List ℕ) → SoundParts used place bytes → non_resident_at place bytes ≡ 0
    → HasValue place bytes
unfolding has_value
sound_value used place bytes s is =
    let value : has_value place bytes ≡ true = rw (is) at s.body in
    let p = and_parts _ _ value in
    record { fields = s.length.more; begins = leb-true _ _ p.0; ends = leb-true _ _ p.1 }

sound_runs : (used place : ℕ) (bytes : List ℕ) → SoundParts used place bytes → non_resident_at place bytes ≡ 1
    → HasRuns place bytes
unfolding has_runs
sound_runs used place bytes s is =
    let runs : has_runs place bytes ≡ true = rw (is) at s.body in
    let least : 64 ≤ length_at place bytes = rw (is) at s.length.least in
    let p = and_parts _ _ runs in
    let q = and_parts _ _ p.1 in
    let r = and_parts _ _ q.1 in
    let t = and_parts _ _ r.1 in
    record {
      fields = least;
      begins = leb-true _ _ p.0;
      ends = leb-true _ _ q.0;
      lowest = leb-true _ _ r.0;
      next = leb-true _ _ t.0;
      highest = leb-true _ _ t.1;
    }

pub sound_at : (used place : ℕ) (bytes : List ℕ) → is_sound used place bytes ≡ true → IsSoundAt used place bytes
sound_at used place bytes e =
    let s = sound_parts used place bytes e in
    record {
      aligned = s.length.aligned;
      more = s.length.more;
      ends = s.length.within;
      residence = s.residence;
      name = sound_name place bytes s.name;
      resident = sound_value used place bytes s;
      runs = sound_runs used place bytes s;
    }
