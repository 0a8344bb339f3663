-- Where the attributes of a record lie, and how large their numbers are.
use Rattle.std.proofs.Common.{◌≡◌, ℕ, zero, suc, ◌+◌, ◌*◌, ◌-◌, ◌^◌, ◌<◌, ◌≤◌, ◌≢◌, List, [], ◌∷◌, length, take, drop, map, All, Result, Ok, Err, refl, sym, ap, ◌∙◌, arith, inl, inr}
use Rattle.std.specs.Prelude.{IfOk}
use Rattle.std.specs.List.{AllByRecursion}
use Rattle.std.proofs.lemmas.List.{get_or-take, get_or-drop, get_or_past, length-take}
use Rattle.std.proofs.lemmas.List.Elements.{All-from_recursion}
use Rattle.std.proofs.lemmas.Bool.{cases_lt}
use Rattle.ntfs_base.specs.Bytes.{AreBytes, piece_at}
use Rattle.ntfs_base.proofs.BytesLemmas.{number_at-lt}
use Rattle.ntfs_base.proofs.PieceLemmas.{length-piece, length-piece-le}
use Rattle.ntfs_record.specs.declared.fault.RecordFault.{RecordFault}
use Rattle.ntfs_record.specs.FileRecord.{HeadLayout, FileRecord}
use Rattle.ntfs_record.specs.Layout.{first_attribute_of, in_use_of, allocated_of, kind_at, length_at, non_resident_at, name_units_at, name_offset_at, value_length_at, value_offset_at, pairs_offset_at}
use Rattle.ntfs_record.specs.Attribute.{end_kind, name_at, resident_at, runs_at, raw_at, attribute_of, IsSoundAt, IsRaw}
use Rattle.ntfs_record.specs.IsRecord.{Follow, AreRaws, IsRecord, LiesIn, LiesInside, IsBounded, IsKeptRaw, IsKept}
use Rattle.ntfs_record.specs.Views.{Placed, placed_from, shown_placed, HasBounds}
use Rattle.ntfs_record.proofs.Sound.{whether}
use Rattle.ntfs_record.proofs.StandsLemmas.{by_kind, raw-long, raw-stands, raw-is}

-- ---- pieces

take-its_length : (n : ℕ) (xs : List ℕ) → take n xs ≡ take (length (take n xs)) xs
take-its_length zero xs = refl
take-its_length (suc n) [] = refl
take-its_length (suc n) (x ∷ xs) = ap (λ (rest : List ℕ). x ∷ rest) (take-its_length n xs)

piece_is : (place count : ℕ) (bytes : List ℕ)
    → piece_at place count bytes ≡ piece_at place (length (piece_at place count bytes)) bytes
unfolding piece_at
piece_is place count bytes = take-its_length count (drop place bytes)

-- the same behind an offset from 0
piece_own : (offset count : ℕ) (bytes : List ℕ)
    → piece_at (0 + offset) count bytes ≡ piece_at offset (length (piece_at (0 + offset) count bytes)) bytes
piece_own offset count bytes =
    piece_is (0 + offset) count bytes
    ∙ ap (λ p. piece_at p (length (piece_at (0 + offset) count bytes)) bytes) (omega arith)

-- a piece of bytes has bytes
piece-bytes : (place count : ℕ) (bytes : List ℕ) → AreBytes bytes → AreBytes (piece_at place count bytes)
unfolding piece_at
piece-bytes place count bytes are i =
    elim (cases_lt i count) [
      | inl within ↦
          let here = get_or-take count (drop place bytes) i 0 within ∙ get_or-drop place bytes i 0 in
          rw here (are (place + i))
      | inr past ↦
          let none =
          get_or_past (take count (drop place bytes)) i 0 (omega (arith, length-take count (drop place bytes))) in
          rw none (omega arith)
    ]

raw-bytes : (bytes : List ℕ) (place : ℕ) → AreBytes bytes → AreBytes (raw_at bytes place)
unfolding raw_at
raw-bytes bytes place are = piece-bytes place (length_at place bytes) bytes are

-- ---- what an attribute says lies in its own bytes

named : (raw : List ℕ) → IsRaw raw → 0 < length (name_at 0 raw)
    → name_offset_at 0 raw + length (name_at 0 raw) ≤ length raw
named raw is some =
    let most = length-piece-le (0 + name_offset_at 0 raw) (2 * name_units_at 0 raw) raw in
    let units : 0 < name_units_at 0 raw = omega arith in
    let ends = is.sound.name units in
    omega (arith, most, ends, is.long)

resident_lies : (raw : List ℕ) → IsRaw raw → non_resident_at 0 raw ≡ 0 → LiesInside raw (resident_at 0 raw)
unfolding resident_at
resident_lies raw is resident =
    let v = is.sound.resident resident in
    let most = length-piece-le (0 + value_offset_at 0 raw) (value_length_at 0 raw) raw in
    record {
      name = named raw is;
      name_is = piece_own (name_offset_at 0 raw) (2 * name_units_at 0 raw) raw;
      value = λ _. omega (arith, most, v.ends, is.long);
      value_is = λ _. piece_own (value_offset_at 0 raw) (value_length_at 0 raw) raw;
      pairs = λ e. absurd cc;
      pairs_is = λ e. absurd cc;
      no_value = λ e. absurd cc;
      no_pairs = λ _. refl;
      lowest = omega arith;
      next = omega arith;
      highest = omega arith;
    }

runs_lie : (raw : List ℕ) → IsRaw raw → non_resident_at 0 raw ≡ 1 → LiesInside raw (runs_at 0 raw)
unfolding runs_at
runs_lie raw is runs =
    let r = is.sound.runs runs in
    let exact =
    length-piece (0 + pairs_offset_at 0 raw) (length_at 0 raw - pairs_offset_at 0 raw) raw
    (omega (arith, r.ends, is.long)) in
    record {
      name = named raw is;
      name_is = piece_own (name_offset_at 0 raw) (2 * name_units_at 0 raw) raw;
      value = λ e. absurd cc;
      value_is = λ e. absurd cc;
      pairs = λ _. omega (arith, exact, r.ends, is.long);
      pairs_is = λ _. piece_own (pairs_offset_at 0 raw) (length_at 0 raw - pairs_offset_at 0 raw) raw;
      no_value = λ _. refl;
      no_pairs = λ e. absurd cc;
      lowest = r.lowest;
      next = r.next;
      highest = r.highest;
    }

pub raw-lies : (raw : List ℕ) → IsRaw raw → LiesInside raw (attribute_of raw)
raw-lies raw is = by_kind (LiesInside raw) (length raw + 4) 0 raw is.sound (resident_lies raw is) (runs_lie raw is)

-- ---- how large its numbers are

bounded_resident : (raw : List ℕ) → AreBytes raw → length raw < 2 ^ 32 → IsBounded raw (resident_at 0 raw)
unfolding resident_at
bounded_resident raw are long = record {
  long = long;
  kind = number_at-lt 4 0 raw are;
  name_offset = number_at-lt 2 0x0A raw are;
  flags = number_at-lt 2 0x0C raw are;
  instance = number_at-lt 2 0x0E raw are;
  body_offset = number_at-lt 2 0x14 raw are;
  allocated = omega arith;
  size = omega arith;
  valid = omega arith;
}

bounded_runs : (raw : List ℕ) → AreBytes raw → length raw < 2 ^ 32 → IsBounded raw (runs_at 0 raw)
unfolding runs_at
bounded_runs raw are long = record {
  long = long;
  kind = number_at-lt 4 0 raw are;
  name_offset = number_at-lt 2 0x0A raw are;
  flags = number_at-lt 2 0x0C raw are;
  instance = number_at-lt 2 0x0E raw are;
  body_offset = number_at-lt 2 0x20 raw are;
  allocated = number_at-lt 8 0x28 raw are;
  size = number_at-lt 8 0x30 raw are;
  valid = number_at-lt 8 0x38 raw are;
}

pub raw-kept : (raw : List ℕ) → AreBytes raw → IsRaw raw → IsKeptRaw raw
raw-kept raw are is =
    let most : length_at 0 raw < 2 ^ 32 = number_at-lt 4 0x04 raw are in
    let long : length raw < 2 ^ 32 = rw is.long at most in
    record {
      is = is;
      inside = raw-lies raw is;
      bounded = by_kind (IsBounded raw) (length raw + 4) 0 raw is.sound (λ _. bounded_resident raw are long)
          (λ _. bounded_runs raw are long);
    }

-- ---- where an attribute lies in the record

placed-lies : (place : ℕ) (bytes : List ℕ) → in_use_of bytes ≤ length bytes → in_use_of bytes < 2 ^ 32
    → IsSoundAt (in_use_of bytes) place bytes → LiesIn bytes (record { place = place; raw = raw_at bytes place })
placed-lies place bytes within small s =
    let len = raw-long (in_use_of bytes) place bytes within s in
    let at = raw-stands (in_use_of bytes) place bytes within s in
    record {
      small = omega (arith, s.ends);
      more = rw len s.more;
      aligned = rw len s.aligned;
      ends = rw len s.ends;
      is = sym at;
    }

-- ---- what is shown of an attribute

pub bounds : (bytes : List ℕ) (p : Placed) → in_use_of bytes < 2 ^ 32 → LiesIn bytes p
    → LiesInside p.raw (attribute_of p.raw)
    → HasBounds (shown_placed p)
bounds bytes p small l i = record {
  place = omega (arith, l.more, l.ends);
  name = name_fits;
  value = value_fits;
  pairs = pairs_fit;
  lowest = i.lowest;
  next = i.next;
  highest = i.highest;
}
  where
    len_fits : length p.raw < 2 ^ 32
    len_fits = omega (arith, l.ends)

    name_fits : length (attribute_of p.raw).face.name < 2 ^ 32
    name_fits =
        elim (cases_lt 0 (length (attribute_of p.raw).face.name)) [
          | inl some ↦ omega (arith, len_fits, i.name some)
          | inr none ↦ omega arith
        ]

    value_fits : length (attribute_of p.raw).face.value < 2 ^ 32
    value_fits =
        elim (whether (attribute_of p.raw).face.is_resident) [
          | inl is ↦ omega (arith, len_fits, i.value is)
          | inr not ↦ omega (arith, ap length (i.no_value not))
        ]

    pairs_fit : length (attribute_of p.raw).payload.runs < 2 ^ 32
    pairs_fit =
        elim (whether (attribute_of p.raw).face.is_resident) [
          | inl is ↦ omega (arith, ap length (i.no_pairs is))
          | inr not ↦ omega (arith, len_fits, i.pairs not)
        ]

-- ---- how many attributes there are

pub few_follow : (used : ℕ) (bytes : List ℕ) (place : ℕ) (raws : List (List ℕ)) (last : ℕ)
    → Follow used bytes place raws last → place + 24 * length raws ≤ last
few_follow used bytes place [] last follow = omega (arith, follow)
few_follow used bytes place (raw ∷ raws) last follow =
    let rest = few_follow used bytes (place + length_at place bytes) raws last follow.3 in
    omega (arith, rest, follow.0.more)

pub few_raws : (bytes : List ℕ) (place : ℕ) (raws : List (List ℕ)) → AreRaws bytes place raws
    → 24 * length raws < in_use_of bytes
few_raws bytes place raws are =
    let most = few_follow (in_use_of bytes) bytes place raws are.last are.follow in
    omega (arith, are.ends.room)

length-placed : (place : ℕ) (raws : List (List ℕ)) → length (placed_from place raws) ≡ length raws
length-placed place [] = refl
length-placed place (raw ∷ raws) = ap suc (length-placed (place + length raw) raws)

pub few_placed : (bytes : List ℕ) (place : ℕ) (raws : List (List ℕ)) → AreRaws bytes place raws
    → 24 * length (placed_from place raws) < in_use_of bytes
few_placed bytes place raws are = omega (arith, few_raws bytes place raws are, length-placed place raws)

-- the places fall away
pub raws-placed : (place : ℕ) (raws : List (List ℕ)) → map (λ p. p.raw) (placed_from place raws) ≡ raws
raws-placed place [] = refl
raws-placed place (raw ∷ raws) = ap (λ (rest : List (List ℕ)). raw ∷ rest) (raws-placed (place + length raw) raws)

-- ---- all attributes of a record

-- what holds of each sound attribute's own bytes holds of those that follow one another
pub all_raws : (P : List ℕ → Type 0) (used : ℕ) (bytes : List ℕ) (place : ℕ) (raws : List (List ℕ)) (last : ℕ)
    → ((p : ℕ) → IsSoundAt used p bytes → kind_at p bytes ≢ end_kind → P (raw_at bytes p))
    → Follow used bytes place raws last → AllByRecursion P raws
all_raws P used bytes place [] last each follow = tt
all_raws P used bytes place (raw ∷ raws) last each follow = (
  rw follow.2 (each place follow.0 follow.1),
  all_raws P used bytes
      (place + length_at place bytes) raws last each follow.3,
)

-- and what holds of them at their places
pub all_placed : (P : Placed → Type 0) (used : ℕ) (bytes : List ℕ) (place : ℕ) (raws : List (List ℕ)) (last : ℕ)
    → used ≤ length bytes
    → ((p : ℕ) → IsSoundAt used p bytes → kind_at p bytes ≢ end_kind → P (record { place = p; raw = raw_at bytes p }))
    → Follow used bytes place raws last → AllByRecursion P (placed_from place raws)
all_placed P used bytes place [] last within each follow = tt
all_placed P used bytes place (raw ∷ raws) last within each follow =
    let len : length raw ≡ length_at place bytes = ap length follow.2 ∙ raw-long used place bytes within follow.0 in
    let first : P (record { place = place; raw = raw }) = rw follow.2 (each place follow.0 follow.1) in
    let rest = all_placed P used bytes (place + length_at place bytes) raws last within each follow.3 in
    (first, rw len rest)

pub record-kept : (bytes : List ℕ) (r : FileRecord) → AreBytes bytes → IsRecord bytes r → IsKept bytes r
record-kept bytes r are is =
    let allocated : allocated_of bytes < 2 ^ 32 = number_at-lt 4 0x1C bytes are in
    let small : in_use_of bytes < 2 ^ 32 = number_at-lt 4 0x18 bytes are in
    let within : in_use_of bytes ≤ length bytes = omega (arith, is.header.in_use, is.header.allocated) in
    let used : r.layout.in_use ≡ in_use_of bytes = ap (λ (l : HeadLayout). l.in_use) is.layout in
    let first : r.layout.first_attribute ≡ first_attribute_of bytes =
    ap (λ (l : HeadLayout). l.first_attribute) is.layout in
    let a = is.attributes in
    let lie =
    All-from_recursion (LiesIn bytes) (placed_from (first_attribute_of bytes) r.raws)
    (all_placed (LiesIn bytes) (in_use_of bytes) bytes (first_attribute_of bytes) r.raws a.last within
    (λ p s _. placed-lies p bytes within small s) a.follow) in
    record {
      small = omega (arith, is.header.allocated);
      in_use = omega (arith, within, used);
      few = rw used (few_raws bytes (first_attribute_of bytes) r.raws a);
      lie = rw first lie;
      kept = All-from_recursion IsKeptRaw r.raws
          (all_raws IsKeptRaw (in_use_of bytes) bytes (first_attribute_of bytes) r.raws a.last
          (λ p s other. raw-kept (raw_at bytes p) (raw-bytes bytes p are)
          (raw-is (in_use_of bytes) p bytes within s other)) a.follow);
    }

pub kept_lem : (bytes : List ℕ) (result : Result FileRecord RecordFault) → AreBytes bytes → IfOk result (IsRecord bytes)
    → IfOk result (IsKept bytes)
kept_lem bytes (Ok r) are is = record-kept bytes r are is
kept_lem bytes (Err f) are is = tt

map_all : (placed : List Placed) → AllByRecursion (λ p. HasBounds (shown_placed p)) placed
    → AllByRecursion HasBounds (map shown_placed placed)
map_all [] all = tt
map_all (p ∷ placed) all = (all.0, map_all placed all.1)

-- what is shown of all attributes from a place on
pub shown-bounds : (bytes : List ℕ) (place : ℕ) (raws : List (List ℕ)) → in_use_of bytes ≤ length bytes
    → length bytes < 2 ^ 32 → AreRaws bytes place raws → All HasBounds (map shown_placed (placed_from place raws))
shown-bounds bytes place raws within small are =
    let fits : in_use_of bytes < 2 ^ 32 = omega arith in
    let each = λ (p : ℕ) (s : IsSoundAt (in_use_of bytes) p bytes) (other : kind_at p bytes ≢ end_kind).
    bounds bytes (record { place = p; raw = raw_at bytes p }) fits (placed-lies p bytes within fits s)
    (raw-lies (raw_at bytes p) (raw-is (in_use_of bytes) p bytes within s other)) in
    All-from_recursion HasBounds (map shown_placed (placed_from place raws))
    (map_all (placed_from place raws)
    (all_placed (λ p. HasBounds (shown_placed p)) (in_use_of bytes) bytes place raws are.last within each are.follow))
