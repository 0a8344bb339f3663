-- What an edited attribute is and says.
use Rattle.std.proofs.Common.{◌≡◌, ◌≤◌, ◌<◌, ◌+◌, ◌*◌, ◌-◌, ◌^◌, ◌%◌, ℕ, zero, suc, Bool, true, false, cond, leb, List, [], length, replicate, refl, sym, ap, ◌∙◌, arith}
use Rattle.std.proofs.lemmas.Bool.{leb-true}
use Rattle.byteorder.specs.Endian.{little_bytes}
use Rattle.byteorder.specs.Numbers.{length-bytes_low_first}
use Rattle.ntfs_base.specs.Bytes.{number_at, piece_at, overwrite}
use Rattle.ntfs_base.proofs.PieceLemmas.{number-own, number-same, number-bytes, piece-piece, piece-front}
use Rattle.ntfs_base.proofs.OverwriteLemmas.{number-overwrite, number-before, piece-before, piece-after, length-overwrite}
use Rattle.ntfs_record.specs.Layout.{kind_at, length_at, non_resident_at, name_units_at, name_offset_at, attribute_flags_at, instance_at, value_length_at, value_offset_at, lowest_at, highest_at, pairs_offset_at, allocated_at, size_at, valid_at, with_length_at, with_highest_at, with_value_length_at, with_allocated_at, with_size_at, with_valid_at}
use Rattle.ntfs_record.specs.Attribute.{next_of, name_at, value_at, pairs_at, resident_at, runs_at, attribute_of, IsRaw}
use Rattle.ntfs_edit.specs.Edits.{less_one, padded, pairs_size, with_pairs, value_size, with_value, with_sizes, HasNameBefore, TakesPairs, TakesValue, TakesSizes, pairs_said, value_said, sizes_said}
use Rattle.ntfs_edit.proofs.PartsLemmas.{whole-piece}
use Rattle.ntfs_edit.proofs.PlaceLemmas.{up8-bounds, padded-long, pairs-long, value-long, sizes-long}
use Rattle.ntfs_edit.proofs.RefillLemmas.{Refills, refills, number-low, number-mid, number-high}

-- ---- what all edits keep

-- the fields of every attribute but its length
pub record SameFace (old new : List ℕ) : Type 0 where
  pub kind : kind_at 0 new ≡ kind_at 0 old
  pub residence : non_resident_at 0 new ≡ non_resident_at 0 old
  pub units : name_units_at 0 new ≡ name_units_at 0 old
  pub name_offset : name_offset_at 0 new ≡ name_offset_at 0 old
  pub flags : attribute_flags_at 0 new ≡ attribute_flags_at 0 old
  pub instance : instance_at 0 new ≡ instance_at 0 old

same-face : (k offset : ℕ) (long field text old new : List ℕ) → Refills k offset long field text old new → 0x10 ≤ k
    → SameFace old new
same-face k offset long field text old new r behind = record {
  kind = number-low k offset long field text old new 4 0 r (omega arith);
  residence = number-mid k offset long field text old new 1 0x08 r (omega arith) (omega arith);
  units = number-mid k offset long field text old new 1 0x09 r (omega arith) (omega arith);
  name_offset = number-mid k offset long field text old new 2 0x0A r (omega arith) (omega arith);
  flags = number-mid k offset long field text old new 2 0x0C r (omega arith) (omega arith);
  instance = number-mid k offset long field text old new 2 0x0E r (omega arith) (omega arith);
}

-- a name of no units is empty wherever it stands
name-kept : (place units : ℕ) (bytes others : List ℕ)
    → (0 < units → piece_at place (2 * units) bytes ≡ piece_at place (2 * units) others)
    → piece_at place (2 * units) bytes ≡ piece_at place (2 * units) others
unfolding piece_at
name-kept place zero bytes others same = refl
name-kept place (suc units) bytes others same = same (omega arith)

-- a name between the fields and the offset is kept
name-same : (k offset least : ℕ) (long field text old new : List ℕ) → Refills k offset long field text old new
    → SameFace old new → k + length field ≤ least → HasNameBefore least offset old → name_at 0 new ≡ name_at 0 old
name-same k offset least long field text old new r f behind named =
    let fits : 0 < name_units_at 0 old → piece_at (0 + name_offset_at 0 old) (2 * name_units_at 0 old) new ≡ piece_at (0 + name_offset_at 0 old) (2 * name_units_at 0 old) old =
    λ some. let n = named some in r.high (0 + name_offset_at 0 old) (2 * name_units_at 0 old) (omega (arith, n.0)) (omega (arith, n.1)) in
    rw (f.name_offset, f.units) (name-kept (0 + name_offset_at 0 old) (name_units_at 0 old) new old fits)

-- a number that was put in
number-field : (n p x : ℕ) (bytes : List ℕ) → piece_at p n bytes ≡ little_bytes n x → x < 256 ^ n → number_at n p bytes ≡ x
number-field n p x bytes is fits = number-own n p bytes ∙ ap (number_at n 0) is ∙ number-bytes n x fits

-- ---- mapping pairs

pairs-refills : (pairs : List ℕ) (next : ℕ) (raw : List ℕ) → IsRaw raw → non_resident_at 0 raw ≡ 1
    → Refills 0x18 (pairs_offset_at 0 raw) (little_bytes 4 (pairs_size (length pairs) raw)) (little_bytes 8 (less_one next)) (padded (pairs_size (length pairs) raw - pairs_offset_at 0 raw) pairs) raw (with_pairs pairs next raw)
unfolding with_pairs with_highest_at with_length_at
pairs-refills pairs next raw is runs =
    let r = is.sound.runs runs in
    let eight : length (little_bytes 8 (less_one next)) ≡ 8 = length-bytes_low_first 0 8 (less_one next) in
    let size = pairs_size (length pairs) raw in
    refills 0x18 (pairs_offset_at 0 raw) (little_bytes 4 size) (little_bytes 8 (less_one next))
    (padded (size - pairs_offset_at 0 raw) pairs) raw (length-bytes_low_first 0 4 size) (omega arith)
    (omega (arith, r.begins)) (omega (arith, r.ends, is.long))

next-back : (next : ℕ) → next < 2 ^ 64 → next_of (less_one next) ≡ next
unfolding less_one
next-back next fits = omega arith

less_one-fits : (next : ℕ) → less_one next < 256 ^ 8
unfolding less_one
less_one-fits next = omega arith

-- the fields of the runs
record SameRuns (old new : List ℕ) : Type 0 where
  lowest : lowest_at 0 new ≡ lowest_at 0 old
  offset : pairs_offset_at 0 new ≡ pairs_offset_at 0 old
  unit : piece_at (0 + 0x22) 6 new ≡ piece_at (0 + 0x22) 6 old
  allocated : allocated_at 0 new ≡ allocated_at 0 old
  size : size_at 0 new ≡ size_at 0 old
  valid : valid_at 0 new ≡ valid_at 0 old
  packed : 72 ≤ pairs_offset_at 0 old → piece_at (0 + 0x40) 8 new ≡ piece_at (0 + 0x40) 8 old

same-runs : (offset : ℕ) (long field text old new : List ℕ) → Refills 0x18 offset long field text old new
    → length field ≡ 8 → 64 ≤ offset → offset ≡ pairs_offset_at 0 old → SameRuns old new
same-runs offset long field text old new r eight fields is = record {
  lowest = number-mid 0x18 offset long field text old new 8 0x10 r (omega arith) (omega arith);
  offset = number-high 0x18 offset long field text old new 2 0x20 r (omega arith) (omega arith);
  unit = r.high 0x22 6 (omega arith) (omega arith);
  allocated = number-high 0x18 offset long field text old new 8 0x28 r (omega arith) (omega arith);
  size = number-high 0x18 offset long field text old new 8 0x30 r (omega arith) (omega arith);
  valid = number-high 0x18 offset long field text old new 8 0x38 r (omega arith) (omega arith);
  packed = λ room. r.high 0x40 8 (omega arith) (omega arith);
}

-- what an attribute with other mapping pairs is made of
record PairsMade (pairs : List ℕ) (next : ℕ) (raw new : List ℕ) : Type 0 where
  face : SameFace raw new
  same : SameRuns raw new
  whole : length new ≡ pairs_size (length pairs) raw
  long : length_at 0 new ≡ pairs_size (length pairs) raw
  highest : highest_at 0 new ≡ less_one next
  text : piece_at (pairs_offset_at 0 raw) (pairs_size (length pairs) raw - pairs_offset_at 0 raw) new
      ≡ padded (pairs_size (length pairs) raw - pairs_offset_at 0 raw) pairs

pairs-made : (pairs : List ℕ) (next : ℕ) (raw : List ℕ) → IsRaw raw → non_resident_at 0 raw ≡ 1
    → pairs_size (length pairs) raw < 2 ^ 32 → PairsMade pairs next raw (with_pairs pairs next raw)
pairs-made pairs next raw is runs fits =
    let r = is.sound.runs runs in
    let new = with_pairs pairs next raw in
    let size = pairs_size (length pairs) raw in
    let offset = pairs_offset_at 0 raw in
    let long = little_bytes 4 (pairs_size (length pairs) raw) in
    let field = little_bytes 8 (less_one next) in
    let eight : length (little_bytes 8 (less_one next)) ≡ 8 = length-bytes_low_first 0 8 (less_one next) in
    let text = padded (pairs_size (length pairs) raw - pairs_offset_at 0 raw) pairs in
    let f = pairs-refills pairs next raw is runs in
    let bounds = up8-bounds (pairs_offset_at 0 raw + length pairs) in
    let text_long : length (padded (pairs_size (length pairs) raw - pairs_offset_at 0 raw) pairs) ≡ pairs_size (length pairs) raw - pairs_offset_at 0 raw =
    padded-long (size - offset) pairs (omega (arith, bounds.0)) in
    let field_is : piece_at 0x18 8 new ≡ field = ap (λ n. piece_at 0x18 n new) (sym eight) ∙ f.field_is in
    record {
      face = same-face 0x18 offset long field text raw new f (omega arith);
      same = same-runs offset long field text raw new f eight r.begins refl;
      whole = pairs-long pairs next raw is runs;
      long = number-field 4 4 size new f.long_is fits;
      highest = number-field 8 0x18 (less_one next) new field_is (less_one-fits next);
      text = ap (λ n. piece_at offset n new) (sym text_long) ∙ f.text_is;
    }

pairs-aligned : (count : ℕ) (raw : List ℕ) → length raw % 8 ≡ 0 → pairs_size count raw % 8 ≡ 0
pairs-aligned count raw aligned =
    let bounds = up8-bounds (pairs_offset_at 0 raw + count) in omega (arith, bounds.2)

-- an attribute with other mapping pairs has nothing wrong
pub pairs-raw : (pairs : List ℕ) (next : ℕ) (raw : List ℕ) → IsRaw raw → non_resident_at 0 raw ≡ 1
    → lowest_at 0 raw ≤ next → next ≤ 2 ^ 48 + 1 → pairs_size (length pairs) raw < 2 ^ 32
    → IsRaw (with_pairs pairs next raw)
pairs-raw pairs next raw is runs lowest highest fits =
    let m = pairs-made pairs next raw is runs fits in
    let s = is.sound in
    let r = s.runs runs in
    let aligned : length raw % 8 ≡ 0 = rw (← is.long) s.aligned in
    let back : next_of (less_one next) ≡ next = next-back next (omega arith) in
    let next_is = ap next_of m.highest ∙ back in
    record {
      long = m.long ∙ sym m.whole;
      sound = record {
        aligned = rw m.long (pairs-aligned (length pairs) raw aligned);
        more = omega (arith, m.long, s.more, is.long);
        ends = omega (arith, m.long, m.whole);
        residence = omega (arith, m.face.residence, runs);
        name = λ some. let h = s.name (omega (arith, m.face.units)) in omega (arith, h, m.face.units, m.face.name_offset, m.long, is.long);
        resident = λ resident. absurd (omega (arith, m.face.residence, runs));
        runs = λ _. record {
          fields = omega (arith, m.long, r.fields, is.long);
          begins = omega (arith, m.same.offset, r.begins);
          ends = omega (arith, m.same.offset, m.long, r.ends, is.long);
          lowest = omega (arith, m.same.lowest, r.lowest);
          next = omega (arith, m.same.lowest, next_is);
          highest = omega (arith, next_is);
        };
      };
      kind = λ e. is.kind (sym m.face.kind ∙ e);
    }

pub runs-are : (raw : List ℕ) → non_resident_at 0 raw ≡ 1 → attribute_of raw ≡ runs_at 0 raw
runs-are raw is = rw is refl

pub resident-is : (raw : List ℕ) → non_resident_at 0 raw ≡ 0 → attribute_of raw ≡ resident_at 0 raw
resident-is raw is = rw is refl

-- what is asked only where a test holds
where-holds : (b : Bool) (x y : List ℕ) → (b ≡ true → x ≡ y) → cond b x [] ≡ cond b y []
where-holds true x y same = same refl
where-holds false x y same = refl

pairs-runs : (pairs : List ℕ) (next : ℕ) (raw : List ℕ) → TakesPairs pairs next raw
    → runs_at 0 (with_pairs pairs next raw) ≡ record {
      face = record ((runs_at 0 raw).face) { next = next };
      payload = record {
        spot = (runs_at 0 raw).payload.spot;
        runs = padded (pairs_size (length pairs) raw - pairs_offset_at 0 raw) pairs;
      };
    }
unfolding runs_at
pairs-runs pairs next raw t =
    let m = pairs-made pairs next raw t.is t.residence t.fits in
    let f = m.face in
    let g = m.same in
    let new = with_pairs pairs next raw in
    let size = pairs_size (length pairs) raw in
    let offset = pairs_offset_at 0 raw in
    let eight : length (little_bytes 8 (less_one next)) ≡ 8 = length-bytes_low_first 0 8 (less_one next) in
    let name : name_at 0 new ≡ name_at 0 raw =
    name-same 0x18 offset 64 (little_bytes 4 size) (little_bytes 8 (less_one next)) (padded (size - offset) pairs) raw new
    (pairs-refills pairs next raw t.is t.residence) f (omega arith) t.name in
    let next_is : next_of (highest_at 0 new) ≡ next = ap next_of m.highest ∙ next-back next (omega (arith, t.highest)) in
    let pairs_is : pairs_at 0 new ≡ padded (size - offset) pairs =
    ap (λ o. piece_at (0 + o) (length_at 0 new - o) new) g.offset
    ∙ ap (λ n. piece_at (0 + offset) (n - offset) new) m.long
    ∙ ap (λ p. piece_at p (size - offset) new) (omega arith) ∙ m.text in
    let packed : cond (leb 72 (pairs_offset_at 0 new)) (piece_at (0 + 0x40) 8 new) [] ≡ cond (leb 72 (pairs_offset_at 0 raw)) (piece_at (0 + 0x40) 8 raw) [] =
    rw g.offset (where-holds (leb 72 (pairs_offset_at 0 raw)) (piece_at (0 + 0x40) 8 new) (piece_at (0 + 0x40) 8 raw)
    (λ holds. g.packed (leb-true _ _ holds))) in
    rw (name, pairs_is, packed, next_is, g.unit, f.kind, f.flags, f.instance, g.lowest)
    (rw (g.allocated, g.size, g.valid, f.name_offset, g.offset) refl)

pub pairs-says : (pairs : List ℕ) (next : ℕ) (raw : List ℕ) → TakesPairs pairs next raw
    → attribute_of (with_pairs pairs next raw) ≡ pairs_said pairs next raw
pairs-says pairs next raw t =
    let m = pairs-made pairs next raw t.is t.residence t.fits in
    runs-are (with_pairs pairs next raw) (m.face.residence ∙ t.residence) ∙ pairs-runs pairs next raw t
    ∙ ap (λ a. record { face = record (a.face) { next = next }; payload = record { spot = a.payload.spot; runs = padded (pairs_size (length pairs) raw - pairs_offset_at 0 raw) pairs } })
    (sym (runs-are raw t.residence))

-- ---- values

value-refills : (value raw : List ℕ) → IsRaw raw → non_resident_at 0 raw ≡ 0
    → Refills 0x10 (value_offset_at 0 raw) (little_bytes 4 (value_size (length value) raw)) (little_bytes 4 (length value)) (padded (value_size (length value) raw - value_offset_at 0 raw) value) raw (with_value value raw)
unfolding with_value with_value_length_at with_length_at
value-refills value raw is resident =
    let v = is.sound.resident resident in
    let four : length (little_bytes 4 (length value)) ≡ 4 = length-bytes_low_first 0 4 (length value) in
    let size = value_size (length value) raw in
    refills 0x10 (value_offset_at 0 raw) (little_bytes 4 size) (little_bytes 4 (length value))
    (padded (size - value_offset_at 0 raw) value) raw (length-bytes_low_first 0 4 size) (omega arith)
    (omega (arith, v.begins)) (omega (arith, v.begins, v.ends, is.long))

-- what an attribute with another value is made of
record ValueMade (value raw new : List ℕ) : Type 0 where
  face : SameFace raw new
  offset : value_offset_at 0 new ≡ value_offset_at 0 raw
  whole : length new ≡ value_size (length value) raw
  long : length_at 0 new ≡ value_size (length value) raw
  value_long : value_length_at 0 new ≡ length value
  value_is : piece_at (value_offset_at 0 raw) (length value) new ≡ value
  ends : value_offset_at 0 raw + length value ≤ value_size (length value) raw

value-made : (value raw : List ℕ) → IsRaw raw → non_resident_at 0 raw ≡ 0 → value_size (length value) raw < 2 ^ 32
    → ValueMade value raw (with_value value raw)
value-made value raw is resident fits =
    let v = is.sound.resident resident in
    let new = with_value value raw in
    let size = value_size (length value) raw in
    let offset = value_offset_at 0 raw in
    let long = little_bytes 4 (value_size (length value) raw) in
    let field = little_bytes 4 (length value) in
    let four : length (little_bytes 4 (length value)) ≡ 4 = length-bytes_low_first 0 4 (length value) in
    let zeros = replicate {A = ℕ} (value_size (length value) raw - value_offset_at 0 raw - length value) 0 in
    let text = padded (value_size (length value) raw - value_offset_at 0 raw) value in
    let f = value-refills value raw is resident in
    let bounds = up8-bounds (value_offset_at 0 raw + length value) in
    let text_long : length (padded (value_size (length value) raw - value_offset_at 0 raw) value) ≡ value_size (length value) raw - value_offset_at 0 raw =
    padded-long (size - offset) value (omega (arith, bounds.0)) in
    let field_is : piece_at 0x10 4 new ≡ field = ap (λ n. piece_at 0x10 n new) (sym four) ∙ f.field_is in
    let front : 0 + length value ≤ length text = omega (arith, bounds.0) in
    record {
      face = same-face 0x10 offset long field text raw new f (omega arith);
      offset = number-high 0x10 offset long field text raw new 2 0x14 f (omega arith) (omega (arith, v.begins));
      whole = value-long value raw is resident;
      long = number-field 4 4 size new f.long_is fits;
      value_long = number-field 4 0x10 (length value) new field_is (omega (arith, bounds.0));
      value_is = ap (λ p. piece_at p (length value) new) (omega arith)
          ∙ sym (piece-piece 0 (length value) offset (length text) new front)
          ∙ ap (piece_at 0 (length value)) f.text_is
          ∙ piece-front 0 (length value) value zeros (omega arith) ∙ whole-piece value;
      ends = bounds.0;
    }

-- an attribute with another value has nothing wrong
value-raw : (value raw : List ℕ) → IsRaw raw → non_resident_at 0 raw ≡ 0 → HasNameBefore 24 (value_offset_at 0 raw) raw
    → value_size (length value) raw < 2 ^ 32 → IsRaw (with_value value raw)
value-raw value raw is resident named fits =
    let m = value-made value raw is resident fits in
    let v = is.sound.resident resident in
    let bounds = up8-bounds (value_offset_at 0 raw + length value) in
    record {
      long = m.long ∙ sym m.whole;
      sound = record {
        aligned = rw m.long bounds.2;
        more = omega (arith, m.long, m.ends, v.begins);
        ends = omega (arith, m.long, m.whole);
        residence = omega (arith, m.face.residence, resident);
        name = λ some. let h = named (omega (arith, m.face.units)) in omega (arith, h.1, m.face.units, m.face.name_offset, m.long, m.ends);
        resident = λ _. record {
          fields = omega (arith, m.long, m.ends, v.begins);
          begins = omega (arith, m.offset, v.begins);
          ends = omega (arith, m.offset, m.value_long, m.long, m.ends);
        };
        runs = λ runs. absurd (omega (arith, m.face.residence, resident));
      };
      kind = λ e. is.kind (sym m.face.kind ∙ e);
    }

value-resident : (value raw : List ℕ) → TakesValue value raw
    → resident_at 0 (with_value value raw) ≡ value_said value (resident_at 0 raw)
unfolding resident_at
value-resident value raw t =
    let m = value-made value raw t.is t.residence t.fits in
    let f = m.face in
    let new = with_value value raw in
    let size = value_size (length value) raw in
    let offset = value_offset_at 0 raw in
    let four : length (little_bytes 4 (length value)) ≡ 4 = length-bytes_low_first 0 4 (length value) in
    let name : name_at 0 new ≡ name_at 0 raw =
    name-same 0x10 offset 24 (little_bytes 4 size) (little_bytes 4 (length value)) (padded (size - offset) value) raw new
    (value-refills value raw t.is t.residence) f (omega arith) t.name in
    let value_is : value_at 0 new ≡ value =
    ap (λ o. piece_at (0 + o) (value_length_at 0 new) new) m.offset
    ∙ ap (λ n. piece_at (0 + offset) n new) m.value_long
    ∙ ap (λ p. piece_at p (length value) new) (omega arith) ∙ m.value_is in
    rw (name, value_is, f.kind, f.flags, f.instance, f.name_offset, m.offset) refl

pub value-says : (value raw : List ℕ) → TakesValue value raw
    → attribute_of (with_value value raw) ≡ value_said value (attribute_of raw)
value-says value raw t =
    let m = value-made value raw t.is t.residence t.fits in
    resident-is (with_value value raw) (m.face.residence ∙ t.residence) ∙ value-resident value raw t
    ∙ ap (value_said value) (sym (resident-is raw t.residence))

pub value-takes : (value raw : List ℕ) → TakesValue value raw → IsRaw (with_value value raw)
value-takes value raw t = value-raw value raw t.is t.residence t.name t.fits

pub pairs-takes : (pairs : List ℕ) (next : ℕ) (raw : List ℕ) → TakesPairs pairs next raw
    → IsRaw (with_pairs pairs next raw)
pairs-takes pairs next raw t = pairs-raw pairs next raw t.is t.residence t.lowest t.highest t.fits

-- ---- sizes

-- the bytes before the sizes and behind them stay
record SizesMade (allocated size valid : ℕ) (raw new : List ℕ) : Type 0 where
  whole : length new ≡ length raw
  low : (p n : ℕ) → p + n ≤ 0x28 → piece_at p n new ≡ piece_at p n raw
  high : (p n : ℕ) → 0x40 ≤ p → piece_at p n new ≡ piece_at p n raw
  allocated_is : allocated < 2 ^ 64 → allocated_at 0 new ≡ allocated
  size_is : size < 2 ^ 64 → size_at 0 new ≡ size
  valid_is : valid < 2 ^ 64 → valid_at 0 new ≡ valid

sizes-made : (allocated size valid : ℕ) (raw : List ℕ) → 64 ≤ length raw
    → SizesMade allocated size valid raw (with_sizes allocated size valid raw)
unfolding with_sizes with_valid_at with_size_at with_allocated_at
sizes-made allocated size valid raw long =
    let a : length (little_bytes 8 allocated) ≡ 8 = length-bytes_low_first 0 8 allocated in
    let b : length (little_bytes 8 size) ≡ 8 = length-bytes_low_first 0 8 size in
    let c : length (little_bytes 8 valid) ≡ 8 = length-bytes_low_first 0 8 valid in
    let one = overwrite 0x28 (little_bytes 8 allocated) raw in
    let two = overwrite 0x30 (little_bytes 8 size) (overwrite 0x28 (little_bytes 8 allocated) raw) in
    let one_long = length-overwrite 0x28 (little_bytes 8 allocated) raw (omega arith) in
    let two_long = length-overwrite 0x30 (little_bytes 8 size) one (omega arith) in
    record {
      whole = sizes-long allocated size valid raw long;
      low = λ p n low. piece-before p n 0x38 (little_bytes 8 valid) two (omega arith) (omega arith)
          ∙ piece-before p n 0x30 (little_bytes 8 size) one (omega arith) (omega arith)
          ∙ piece-before p n 0x28 (little_bytes 8 allocated) raw (omega arith) low;
      high = λ p n high. piece-after p n 0x38 (little_bytes 8 valid) two (omega arith) (omega arith)
          ∙ piece-after p n 0x30 (little_bytes 8 size) one (omega arith) (omega arith)
          ∙ piece-after p n 0x28 (little_bytes 8 allocated) raw (omega arith) (omega arith);
      allocated_is = λ fits. number-before 8 0x28 0x38 (little_bytes 8 valid) two (omega arith) (omega arith)
          ∙ number-before 8 0x28 0x30 (little_bytes 8 size) one (omega arith) (omega arith)
          ∙ number-overwrite 8 0x28 allocated raw (omega arith) fits;
      size_is = λ fits. number-before 8 0x30 0x38 (little_bytes 8 valid) two (omega arith) (omega arith)
          ∙ number-overwrite 8 0x30 size one (omega arith) fits;
      valid_is = λ fits. number-overwrite 8 0x38 valid two (omega arith) fits;
    }

-- the fields that stay
record SizesKeep (raw new : List ℕ) : Type 0 where
  face : SameFace raw new
  long : length_at 0 new ≡ length_at 0 raw
  lowest : lowest_at 0 new ≡ lowest_at 0 raw
  highest : highest_at 0 new ≡ highest_at 0 raw
  offset : pairs_offset_at 0 new ≡ pairs_offset_at 0 raw

sizes-keep : (allocated size valid : ℕ) (raw : List ℕ) → 64 ≤ length raw
    → SizesKeep raw (with_sizes allocated size valid raw)
sizes-keep allocated size valid raw long =
    let m = sizes-made allocated size valid raw long in
    let new = with_sizes allocated size valid raw in
    let kept = λ (n p : ℕ) (low : p + n ≤ 0x28). number-same n p p new raw (m.low p n low) in
    record {
      face = record {
        kind = kept 4 0 (omega arith);
        residence = kept 1 0x08 (omega arith);
        units = kept 1 0x09 (omega arith);
        name_offset = kept 2 0x0A (omega arith);
        flags = kept 2 0x0C (omega arith);
        instance = kept 2 0x0E (omega arith);
      };
      long = kept 4 0x04 (omega arith);
      lowest = kept 8 0x10 (omega arith);
      highest = kept 8 0x18 (omega arith);
      offset = kept 2 0x20 (omega arith);
    }

-- an attribute with other sizes has nothing wrong
pub sizes-raw : (allocated size valid : ℕ) (raw : List ℕ) → IsRaw raw → non_resident_at 0 raw ≡ 1
    → IsRaw (with_sizes allocated size valid raw)
sizes-raw allocated size valid raw is runs =
    let s = is.sound in
    let r = s.runs runs in
    let fields : 64 ≤ length raw = omega (arith, r.fields, is.long) in
    let m = sizes-made allocated size valid raw fields in
    let k = sizes-keep allocated size valid raw fields in
    let f = k.face in
    record {
      long = k.long ∙ is.long ∙ sym m.whole;
      sound = record {
        aligned = rw k.long s.aligned;
        more = rw k.long s.more;
        ends = omega (arith, k.long, is.long, m.whole);
        residence = omega (arith, f.residence, runs);
        name = λ some. let h = s.name (omega (arith, f.units)) in omega (arith, h, f.units, f.name_offset, k.long);
        resident = λ resident. absurd (omega (arith, f.residence, runs));
        runs = λ _. record {
          fields = rw k.long r.fields;
          begins = rw k.offset r.begins;
          ends = rw (k.offset, k.long) r.ends;
          lowest = rw k.lowest r.lowest;
          next = rw (k.lowest, k.highest) r.next;
          highest = rw k.highest r.highest;
        };
      };
      kind = λ e. is.kind (sym f.kind ∙ e);
    }

sizes-runs : (allocated size valid : ℕ) (raw : List ℕ) → TakesSizes allocated size valid raw
    → runs_at 0 (with_sizes allocated size valid raw) ≡ sizes_said allocated size valid (runs_at 0 raw)
unfolding runs_at
sizes-runs allocated size valid raw t =
    let r = t.is.sound.runs t.residence in
    let fields : 64 ≤ length raw = omega (arith, r.fields, t.is.long) in
    let m = sizes-made allocated size valid raw fields in
    let k = sizes-keep allocated size valid raw fields in
    let f = k.face in
    let new = with_sizes allocated size valid raw in
    let named : 0 < name_units_at 0 raw → piece_at (0 + name_offset_at 0 raw) (2 * name_units_at 0 raw) new ≡ piece_at (0 + name_offset_at 0 raw) (2 * name_units_at 0 raw) raw =
    λ some. m.high (0 + name_offset_at 0 raw) (2 * name_units_at 0 raw) (omega (arith, (t.name some).0)) in
    let name : name_at 0 new ≡ name_at 0 raw =
    rw (f.name_offset, f.units) (name-kept (0 + name_offset_at 0 raw) (name_units_at 0 raw) new raw named) in
    let pairs_is : pairs_at 0 new ≡ pairs_at 0 raw =
    rw (k.offset, k.long) (m.high (0 + pairs_offset_at 0 raw) (length_at 0 raw - pairs_offset_at 0 raw) (omega (arith, r.begins))) in
    let unit = m.low 0x22 6 (omega arith) in
    let packed = m.high 0x40 8 (omega arith) in
    let a = m.allocated_is t.allocated_fits in
    let b = m.size_is t.size_fits in
    let c = m.valid_is t.valid_fits in
    rw (name, pairs_is, packed, unit, f.kind, f.flags, f.instance, k.lowest, k.highest)
    (rw (a, b, c, f.name_offset, k.offset) refl)

pub sizes-says : (allocated size valid : ℕ) (raw : List ℕ) → TakesSizes allocated size valid raw
    → attribute_of (with_sizes allocated size valid raw) ≡ sizes_said allocated size valid (attribute_of raw)
sizes-says allocated size valid raw t =
    let r = t.is.sound.runs t.residence in
    let k = sizes-keep allocated size valid raw (omega (arith, r.fields, t.is.long)) in
    runs-are (with_sizes allocated size valid raw) (k.face.residence ∙ t.residence)
    ∙ sizes-runs allocated size valid raw t
    ∙ ap (sizes_said allocated size valid) (sym (runs-are raw t.residence))
