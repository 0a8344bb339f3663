-- An attribute's own bytes say alone what they say where they stand in a record.
use Rattle.std.proofs.Common.{◌≡◌, ◌≢◌, ◌≤◌, ◌<◌, ◌+◌, ◌*◌, ◌-◌, ℕ, zero, suc, Bool, true, false, cond, leb, eqb, List, [], ◌∷◌, length, map, refl, sym, ap, ◌∙◌, arith, inl, inr}
use Rattle.std.proofs.lemmas.Bool.{leb-true, eqb-true, eqb-false}
use Rattle.ntfs_base.specs.Bytes.{number_at, piece_at}
use Rattle.ntfs_base.proofs.PieceLemmas.{piece-piece, number-piece, length-piece}
use Rattle.ntfs_record.specs.FileRecord.{Attribute, Laid}
use Rattle.ntfs_record.specs.Layout.{in_use_of, kind_at, length_at, non_resident_at, name_units_at, name_offset_at, attribute_flags_at, instance_at, value_length_at, value_offset_at, lowest_at, highest_at, pairs_offset_at, allocated_at, size_at, valid_at}
use Rattle.ntfs_record.specs.Attribute.{end_kind, is_end, name_at, value_at, pairs_at, resident_at, runs_at, attribute_at, raw_at, attribute_of, IsSoundAt, IsRaw}
use Rattle.ntfs_record.specs.Parsing.{raws_of, IsSoundFrom}
use Rattle.ntfs_record.specs.Spelling.{Stands}
use Rattle.ntfs_record.specs.Views.{placed_from, shown_attribute, shown_placed}
use Rattle.ntfs_record.proofs.Sound.{whether, sound_header}
use Rattle.ntfs_record.proofs.Places.{step}
use Rattle.ntfs_record.proofs.RecordLemmas.{other_kind}

-- ---- fields

-- a number in bytes that stand at a place
pub number-stands : (n k place : ℕ) (raw bytes : List ℕ) → Stands place raw bytes → k + n ≤ length raw
    → number_at n (place + k) bytes ≡ number_at n k raw
number-stands n k place raw bytes at within =
    sym (number-piece n k place (length raw) bytes within) ∙ ap (number_at n k) at

-- a piece of bytes that stand at a place
pub piece-stands : (k n place : ℕ) (raw bytes : List ℕ) → Stands place raw bytes → k + n ≤ length raw
    → piece_at (place + k) n bytes ≡ piece_at k n raw
piece-stands k n place raw bytes at within =
    sym (piece-piece k n place (length raw) bytes within) ∙ ap (piece_at k n) at

-- the first 24 bytes say the same fields
pub record SameFields (place : ℕ) (raw bytes : List ℕ) : Type 0 where
  pub kind : kind_at place bytes ≡ kind_at 0 raw
  pub long : length_at place bytes ≡ length_at 0 raw
  pub residence : non_resident_at place bytes ≡ non_resident_at 0 raw
  pub units : name_units_at place bytes ≡ name_units_at 0 raw
  pub name_offset : name_offset_at place bytes ≡ name_offset_at 0 raw
  pub flags : attribute_flags_at place bytes ≡ attribute_flags_at 0 raw
  pub instance : instance_at place bytes ≡ instance_at 0 raw
  pub value_length : value_length_at place bytes ≡ value_length_at 0 raw
  pub value_offset : value_offset_at place bytes ≡ value_offset_at 0 raw

pub same_fields : (place : ℕ) (raw bytes : List ℕ) → Stands place raw bytes → 24 ≤ length raw
    → SameFields place raw bytes
same_fields place raw bytes at long = record {
  kind = ap (λ p. number_at 4 p bytes) (omega arith) ∙ number-stands 4 0 place raw bytes at (omega arith);
  long = number-stands 4 0x04 place raw bytes at (omega arith);
  residence = number-stands 1 0x08 place raw bytes at (omega arith);
  units = number-stands 1 0x09 place raw bytes at (omega arith);
  name_offset = number-stands 2 0x0A place raw bytes at (omega arith);
  flags = number-stands 2 0x0C place raw bytes at (omega arith);
  instance = number-stands 2 0x0E place raw bytes at (omega arith);
  value_length = number-stands 4 0x10 place raw bytes at (omega arith);
  value_offset = number-stands 2 0x14 place raw bytes at (omega arith);
}

-- the first 64 bytes say the same fields of the runs
pub record SameRuns (place : ℕ) (raw bytes : List ℕ) : Type 0 where
  pub lowest : lowest_at place bytes ≡ lowest_at 0 raw
  pub highest : highest_at place bytes ≡ highest_at 0 raw
  pub pairs_offset : pairs_offset_at place bytes ≡ pairs_offset_at 0 raw
  pub unit : piece_at (place + 0x22) 6 bytes ≡ piece_at (0 + 0x22) 6 raw
  pub allocated : allocated_at place bytes ≡ allocated_at 0 raw
  pub size : size_at place bytes ≡ size_at 0 raw
  pub valid : valid_at place bytes ≡ valid_at 0 raw

pub same_runs : (place : ℕ) (raw bytes : List ℕ) → Stands place raw bytes → 64 ≤ length raw → SameRuns place raw bytes
same_runs place raw bytes at long = record {
  lowest = number-stands 8 0x10 place raw bytes at (omega arith);
  highest = number-stands 8 0x18 place raw bytes at (omega arith);
  pairs_offset = number-stands 2 0x20 place raw bytes at (omega arith);
  unit = piece-stands 0x22 6 place raw bytes at (omega arith);
  allocated = number-stands 8 0x28 place raw bytes at (omega arith);
  size = number-stands 8 0x30 place raw bytes at (omega arith);
  valid = number-stands 8 0x38 place raw bytes at (omega arith);
}

-- ---- an attribute that stands at a place with nothing wrong

empty_piece : (p q : ℕ) (bytes others : List ℕ) → piece_at p 0 bytes ≡ piece_at q 0 others
unfolding piece_at
empty_piece p q bytes others = refl

-- a piece behind an offset
piece-offset : (place offset n : ℕ) (raw bytes : List ℕ) → Stands place raw bytes → offset + n ≤ length raw
    → piece_at (place + offset) n bytes ≡ piece_at (0 + offset) n raw
piece-offset place offset n raw bytes at within =
    piece-stands offset n place raw bytes at within ∙ ap (λ p. piece_at p n raw) (omega arith)

-- a name that ends within the bytes, or has no units
name-stands : (place offset units : ℕ) (raw bytes : List ℕ) → Stands place raw bytes
    → (0 < units → offset + 2 * units ≤ length raw)
    → piece_at (place + offset) (2 * units) bytes ≡ piece_at (0 + offset) (2 * units) raw
name-stands place offset zero raw bytes at fits = empty_piece (place + offset) (0 + offset) bytes raw
name-stands place offset (suc units) raw bytes at fits =
    piece-offset place offset (2 * suc units) raw bytes at (fits (omega arith))

-- the name is the same
name-same : (place : ℕ) (raw bytes : List ℕ) → Stands place raw bytes → IsRaw raw → SameFields place raw bytes
    → name_at place bytes ≡ name_at 0 raw
name-same place raw bytes at is f =
    let fits : 0 < name_units_at 0 raw → name_offset_at 0 raw + 2 * name_units_at 0 raw ≤ length raw =
    λ some. omega (arith, is.sound.name some, is.long) in
    rw (f.name_offset, f.units) (name-stands place (name_offset_at 0 raw) (name_units_at 0 raw) raw bytes at fits)

resident-stands : (place : ℕ) (raw bytes : List ℕ) → Stands place raw bytes → IsRaw raw → non_resident_at 0 raw ≡ 0
    → resident_at place bytes ≡ resident_at 0 raw
unfolding resident_at
resident-stands place raw bytes at is resident =
    let f = same_fields place raw bytes at (omega (arith, is.sound.more, is.long)) in
    let v = is.sound.resident resident in
    let name = name-same place raw bytes at is f in
    let value : value_at place bytes ≡ value_at 0 raw =
    rw (f.value_offset, f.value_length)
    (piece-offset place (value_offset_at 0 raw) (value_length_at 0 raw) raw bytes at
    (omega (arith, v.ends, is.long))) in
    rw (name, value, f.kind, f.flags, f.instance, f.name_offset, f.value_offset) refl

-- what is asked only where a test holds
where-holds : (b : Bool) (x y : List ℕ) → (b ≡ true → x ≡ y) → cond b x [] ≡ cond b y []
where-holds true x y same = same refl
where-holds false x y same = refl

runs-stand : (place : ℕ) (raw bytes : List ℕ) → Stands place raw bytes → IsRaw raw → non_resident_at 0 raw ≡ 1
    → runs_at place bytes ≡ runs_at 0 raw
unfolding runs_at
runs-stand place raw bytes at is runs =
    let v = is.sound.runs runs in
    let f = same_fields place raw bytes at (omega (arith, is.sound.more, is.long)) in
    let r = same_runs place raw bytes at (omega (arith, v.fields, is.long)) in
    let name = name-same place raw bytes at is f in
    let pairs : pairs_at place bytes ≡ pairs_at 0 raw =
    rw (r.pairs_offset, f.long)
    (piece-offset place (pairs_offset_at 0 raw) (length_at 0 raw - pairs_offset_at 0 raw) raw bytes at
    (omega (arith, v.ends, is.long))) in
    let packed : cond (leb 72 (pairs_offset_at place bytes)) (piece_at (place + 0x40) 8 bytes) [] ≡ cond
    (leb 72 (pairs_offset_at 0 raw)) (piece_at (0 + 0x40) 8 raw) [] =
    rw r.pairs_offset
    (where-holds (leb 72 (pairs_offset_at 0 raw)) (piece_at (place + 0x40) 8 bytes) (piece_at (0 + 0x40) 8 raw)
    (λ holds. let room : 72 ≤ pairs_offset_at 0 raw = leb-true _ _ holds in
    piece-stands 0x40 8 place raw bytes at (omega (arith, v.ends, is.long)))) in
    rw (name, pairs, packed, r.unit, f.kind, f.flags, f.instance, r.lowest, r.highest)
    (rw (r.allocated, r.size, r.valid, f.name_offset, r.pairs_offset) refl)

-- what holds of both kinds of attributes holds of the attribute at a place
pub by_kind : (P : Attribute (Laid (List ℕ)) → Type 0) (used place : ℕ) (bytes : List ℕ) → IsSoundAt used place bytes
    → (non_resident_at place bytes ≡ 0 → P (resident_at place bytes))
    → (non_resident_at place bytes ≡ 1 → P (runs_at place bytes)) → P (attribute_at place bytes)
by_kind P used place bytes s resident runs =
    elim (whether (eqb (non_resident_at place bytes) 0)) [
      | inl is ↦ rw is (resident (eqb-true _ _ is))
      | inr not ↦
          let other : non_resident_at place bytes ≢ 0 = eqb-false _ _ not in
          rw not (runs (omega (arith, s.residence)))
    ]

resident-is : (place : ℕ) (bytes : List ℕ) → non_resident_at place bytes ≡ 0
    → attribute_at place bytes ≡ resident_at place bytes
resident-is place bytes is = rw is refl

runs-are : (place : ℕ) (bytes : List ℕ) → non_resident_at place bytes ≡ 1
    → attribute_at place bytes ≡ runs_at place bytes
runs-are place bytes is = rw is refl

-- an attribute's own bytes that stand at a place say there what they say alone
pub attribute-stands : (place : ℕ) (raw bytes : List ℕ) → Stands place raw bytes → IsRaw raw
    → attribute_at place bytes ≡ attribute_of raw
attribute-stands place raw bytes at is =
    let f = same_fields place raw bytes at (omega (arith, is.sound.more, is.long)) in
    by_kind (λ a. attribute_at place bytes ≡ a) (length raw + 4) 0 raw is.sound
    (λ resident. resident-is place bytes (f.residence ∙ resident) ∙ resident-stands place raw bytes at is resident)
    (λ runs. runs-are place bytes (f.residence ∙ runs) ∙ runs-stand place raw bytes at is runs)

-- an attribute with nothing wrong has nothing wrong where it stands before the last four bytes in use
pub sound-stands : (used place : ℕ) (raw bytes : List ℕ) → Stands place raw bytes → IsRaw raw
    → place + length raw + 4 ≤ used → IsSoundAt used place bytes
sound-stands used place raw bytes at is room =
    let s = is.sound in
    let f = same_fields place raw bytes at (omega (arith, s.more, is.long)) in
    record {
      aligned = rw f.long s.aligned;
      more = rw f.long s.more;
      ends = omega (arith, f.long, is.long);
      residence = rw f.residence s.residence;
      name = λ some. let h = s.name (omega (arith, f.units)) in omega (arith, h, f.units, f.name_offset, f.long);
      resident = λ resident.
          let v = s.resident (sym f.residence ∙ resident) in
          record {
            fields = rw f.long v.fields;
            begins = rw f.value_offset v.begins;
            ends = rw (f.value_offset, f.value_length, f.long) v.ends;
          };
      runs = λ runs.
          let v = s.runs (sym f.residence ∙ runs) in
          let r = same_runs place raw bytes at (omega (arith, v.fields, is.long)) in
          record {
            fields = rw f.long v.fields;
            begins = rw r.pairs_offset v.begins;
            ends = rw (r.pairs_offset, f.long) v.ends;
            lowest = rw r.lowest v.lowest;
            next = rw (r.lowest, r.highest) v.next;
            highest = rw r.highest v.highest;
          };
    }

-- ---- the bytes of an attribute of a record

-- they are as many as its length says
pub raw-long : (used place : ℕ) (bytes : List ℕ) → used ≤ length bytes → IsSoundAt used place bytes
    → length (raw_at bytes place) ≡ length_at place bytes
unfolding raw_at
raw-long used place bytes within s = length-piece place (length_at place bytes) bytes (omega (arith, s.ends))

raw-piece : (place : ℕ) (bytes : List ℕ) → piece_at place (length_at place bytes) bytes ≡ raw_at bytes place
unfolding raw_at
raw-piece place bytes = refl

-- they stand at their place
pub raw-stands : (used place : ℕ) (bytes : List ℕ) → used ≤ length bytes → IsSoundAt used place bytes
    → Stands place (raw_at bytes place) bytes
raw-stands used place bytes within s =
    ap (λ n. piece_at place n bytes) (raw-long used place bytes within s) ∙ raw-piece place bytes

-- they are an attribute of their own
pub raw-is : (used place : ℕ) (bytes : List ℕ) → used ≤ length bytes → IsSoundAt used place bytes
    → kind_at place bytes ≢ end_kind → IsRaw (raw_at bytes place)
raw-is used place bytes within s other =
    let raw = raw_at bytes place in
    let at = raw-stands used place bytes within s in
    let len = raw-long used place bytes within s in
    let f = same_fields place (raw_at bytes place) bytes at (omega (arith, s.more, len)) in
    let long : length_at 0 (raw_at bytes place) ≡ length (raw_at bytes place) = sym f.long ∙ sym len in
    record {
      long = long;
      sound = record {
        aligned = rw (← f.long) s.aligned;
        more = rw (← f.long) s.more;
        ends = omega (arith, long);
        residence = rw (← f.residence) s.residence;
        name = λ some. let h = s.name (omega (arith, f.units)) in omega (arith, h, f.units, f.name_offset, f.long);
        resident = λ resident.
            let v = s.resident (f.residence ∙ resident) in
            record {
              fields = rw (← f.long) v.fields;
              begins = rw (← f.value_offset) v.begins;
              ends = rw (← f.value_offset, ← f.value_length, ← f.long) v.ends;
            };
        runs = λ runs.
            let v = s.runs (f.residence ∙ runs) in
            let r = same_runs place (raw_at bytes place) bytes at (omega (arith, v.fields, len)) in
            record {
              fields = rw (← f.long) v.fields;
              begins = rw (← r.pairs_offset) v.begins;
              ends = rw (← r.pairs_offset, ← f.long) v.ends;
              lowest = rw (← r.lowest) v.lowest;
              next = rw (← r.lowest, ← r.highest) v.next;
              highest = rw (← r.highest) v.highest;
            };
      };
      kind = λ e. other (f.kind ∙ e);
    }

-- and say what is said at their place
pub attribute-own : (used place : ℕ) (bytes : List ℕ) → used ≤ length bytes → IsSoundAt used place bytes
    → kind_at place bytes ≢ end_kind → attribute_at place bytes ≡ attribute_of (raw_at bytes place)
attribute-own used place bytes within s other =
    attribute-stands place (raw_at bytes place) bytes (raw-stands used place bytes within s)
    (raw-is used place bytes within s other)

-- ---- the attributes from a place on

pub placed-step : (bytes : List ℕ) (place : ℕ) → IsSoundFrom bytes place → is_end (in_use_of bytes) place bytes ≡ false
    → placed_from place (raws_of bytes place)
    ≡ record { place = place; raw = raw_at bytes place }
    ∷ placed_from (place + length_at place bytes) (raws_of bytes (place + length_at place bytes))
placed-step bytes place from e =
    let h = sound_header bytes from.header in
    let s = step bytes place from e in
    let long = raw-long (in_use_of bytes) place bytes h.in_use s.sound in
    ap (placed_from place) s.raws
    ∙ ap (λ n. record { place = place; raw = raw_at bytes place }
    ∷ placed_from (place + n) (raws_of bytes (place + length_at place bytes))) long

-- what is shown of them
pub shown-step : (bytes : List ℕ) (place : ℕ) → IsSoundFrom bytes place → is_end (in_use_of bytes) place bytes ≡ false
    → map shown_placed (placed_from place (raws_of bytes place))
    ≡ shown_attribute place (attribute_at place bytes)
    ∷ map shown_placed (placed_from (place + length_at place bytes) (raws_of bytes (place + length_at place bytes)))
shown-step bytes place from e =
    let h = sound_header bytes from.header in
    let s = step bytes place from e in
    let other : kind_at place bytes ≢ end_kind = other_kind (in_use_of bytes) place bytes s.sound e in
    let own = attribute-own (in_use_of bytes) place bytes h.in_use s.sound other in
    ap (map shown_placed) (placed-step bytes place from e)
    ∙ ap (λ a. shown_attribute place a
    ∷ map shown_placed (placed_from (place + length_at place bytes) (raws_of bytes (place + length_at place bytes))))
    (sym own)
