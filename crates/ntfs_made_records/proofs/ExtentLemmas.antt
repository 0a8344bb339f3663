-- What is read of an attribute in clusters that the generator spells.
use Rattle.std.proofs.Common.{◌≡◌, ◌≤◌, ◌<◌, ◌+◌, ◌-◌, ◌*◌, ◌%◌, ◌^◌, ◌⊎◌, inl, inr, ℕ, List, [], ◌∷◌, ◌++◌, length, take, drop, cond, leb, refl, sym, ap, ◌∙◌, subst, append_assoc, arith}
use Rattle.std.specs.Prelude.{Option, None, Some}
use Rattle.std.proofs.lemmas.List.{length-append, append-nil, take-append-le, nil_from_length}
use Rattle.std.proofs.lemmas.Bool.{cases_lt, le-leb, lt-leb}
use Rattle.std.proofs.Math.Seq.{drop-append_seam}
use Rattle.byteorder.specs.Endian.{little_bytes}
use Rattle.ntfs_base.specs.Bytes.{piece_at}
use Rattle.ntfs_record.specs.Layout.{non_resident_at, pairs_offset_at}
use Rattle.ntfs_record.specs.Attribute.{IsRaw, attribute_of, name_at, next_at, next_of, pairs_at, runs_at}
use Rattle.ntfs_make.specs.declared.field.Field.TheVariants.{U8, U16, U32}
use Rattle.ntfs_make.specs.declared.shape.Shape.{Shape}
use Rattle.ntfs_make.specs.declared.table.Extent.{Extent}
use Rattle.ntfs_make.specs.declared.table.Size.{Size}
use Rattle.ntfs_make.specs.Attributes.{allocated_size_of, compressed_size_bytes, extent_lowest, extent_next, front_bytes, nonresident_bytes, pairs_place, sizes_bytes, tail_bytes}
use Rattle.ntfs_make.specs.Extents.{pairs_of, planned_runs, size_bytes}
use Rattle.ntfs_make.specs.Fields.{fields_bytes, utf16_bytes, with_padding, zero_bytes}
use Rattle.ntfs_make.specs.ReadBack.{FitsExtent, IsExtentOf}
use Rattle.ntfs_make.proofs.ReadBackLemmas.{extent-read}
use Rattle.ntfs_made_records.specs.Made.{extent_face, extent_laid, made_pairs}
use Rattle.ntfs_made_records.proofs.PaddingLemmas.{length-units, padded, padding-behind, padding-of, piece-between}
use Rattle.ntfs_made_records.proofs.SpeltLemmas.{IsSpelt}

-- the numbers of an attribute in clusters are small, its pairs are short, and it tells the size of its clusters or has
-- a name, or neither
pub record HasSmallRuns (shape : Shape) (kind : ℕ) (name : List ℕ) (instance : ℕ) (extent : Extent) : Type 0 where
  pub kind_fits : kind < 0xFFFFFFFF
  pub name_fits : length name < 256
  pub instance_fits : instance < 2 ^ 16
  pub flags_fits : extent.flags < 2 ^ 16
  pub unit_fits : extent.unit < 2 ^ 16
  pub pairs_fit : length (pairs_of shape (planned_runs extent)) ≤ 64
  pub lowest_fits : extent_lowest shape extent ≤ 2 ^ 40
  pub next_fits : extent_next shape extent ≤ 2 ^ 40
  pub allocated_fits : allocated_size_of shape extent < 2 ^ 64
  pub size_fits : size_bytes shape extent.size < 2 ^ 64
  pub initialised_fits : size_bytes shape extent.initialised < 2 ^ 64
  pub one : (name ≡ []) ⊎ (extent.compressed_size ≡ None)

-- ---- what stands before the pairs

length-size : (shape : Shape) (extent : Extent) → (length (compressed_size_bytes shape extent.compressed_size) ≡ 0)
    ⊎ (length (compressed_size_bytes shape extent.compressed_size) ≡ 8)
unfolding compressed_size_bytes fields_bytes
length-size shape extent = of extent.compressed_size
  where
    of : (told : Option Size) → (length (compressed_size_bytes shape told) ≡ 0)
        ⊎ (length (compressed_size_bytes shape told) ≡ 8)
    of None = inl refl
    of (Some size) = inr refl

pub record HasFront (shape : Shape) (name : List ℕ) (extent : Extent) : Type 0 where
  pub aligned : length (front_bytes shape name extent) % 8 ≡ 0
  pub least : 2 * length name ≤ length (front_bytes shape name extent)
  pub most : length (front_bytes shape name extent) ≤ 15 + 2 * length name

pub front : (shape : Shape) (name : List ℕ) (extent : Extent) → HasFront shape name extent
unfolding front_bytes
front shape name extent =
    let units = length-units name in
    let named = padded (utf16_bytes name) in
    let both = length-append (compressed_size_bytes shape extent.compressed_size) (with_padding (utf16_bytes name)) in
    elim (length-size shape extent) [
      | inl none ↦ record {
        aligned = omega (arith, none, named.aligned);
        least = omega (arith, none, named.least);
        most = omega (arith, none, named.most);
      }
      | inr eight ↦ record {
        aligned = omega (arith, eight, named.aligned);
        least = omega (arith, eight, named.least);
        most = omega (arith, eight, named.most);
      }
    ]

-- the padding is that of the pairs
tail-is : (shape : Shape) (name : List ℕ) (extent : Extent)
    → tail_bytes shape name extent ≡ front_bytes shape name extent ++ made_pairs shape extent
unfolding tail_bytes
tail-is shape name extent =
    let f = front shape name extent in
    padding-behind (front_bytes shape name extent) (pairs_of shape (planned_runs extent)) f.aligned

length-tail : (shape : Shape) (name : List ℕ) (extent : Extent)
    → length (tail_bytes shape name extent) ≡ length (front_bytes shape name extent) + length (made_pairs shape extent)
length-tail shape name extent =
    ap length (tail-is shape name extent) ∙ length-append (front_bytes shape name extent) (made_pairs shape extent)

-- ---- the bytes by their parts

run_fields : Shape → ℕ → List ℕ → ℕ → Extent → List ℕ
run_fields shape kind name instance extent =
    fields_bytes (
    U32 kind ∷ U32 (64 + length (tail_bytes shape name extent)) ∷ U8 1 ∷ U8 (length name) ∷ U16 64 ∷ U16 extent.flags
    ∷ U16 instance ∷ [])
    ++ sizes_bytes shape (pairs_place shape name extent) extent

length-run_fields : (shape : Shape) (kind : ℕ) (name : List ℕ) (instance : ℕ) (extent : Extent)
    → length (run_fields shape kind name instance extent) ≡ 64
unfolding run_fields fields_bytes sizes_bytes
length-run_fields shape kind name instance extent = refl

extent-is : (shape : Shape) (kind : ℕ) (name : List ℕ) (instance : ℕ) (extent : Extent)
    → nonresident_bytes shape kind name instance extent
    ≡ run_fields shape kind name instance extent ++ (front_bytes shape name extent ++ made_pairs shape extent)
unfolding nonresident_bytes run_fields
extent-is shape kind name instance extent =
    ap (λ bytes. run_fields shape kind name instance extent ++ bytes) (tail-is shape name extent)

pub length-extent : (shape : Shape) (kind : ℕ) (name : List ℕ) (instance : ℕ) (extent : Extent)
    → length (nonresident_bytes shape kind name instance extent) ≡ 64 + length (tail_bytes shape name extent)
length-extent shape kind name instance extent =
    let fields = run_fields shape kind name instance extent in
    let long = length-run_fields shape kind name instance extent in
    let tail = length-tail shape name extent in
    let both = length-append (front_bytes shape name extent) (made_pairs shape extent) in
    ap length (extent-is shape kind name instance extent)
    ∙ length-append fields (front_bytes shape name extent ++ made_pairs shape extent) ∙ omega arith

-- the bytes at 0x22
unit-is : (shape : Shape) (kind : ℕ) (name : List ℕ) (instance : ℕ) (extent : Extent)
    → piece_at (0 + 0x22) 6 (nonresident_bytes shape kind name instance extent)
    ≡ little_bytes 2 extent.unit ++ zero_bytes 4
unfolding nonresident_bytes sizes_bytes fields_bytes piece_at zero_bytes
unit-is shape kind name instance extent = refl

-- ---- what is read

extent-fits : (shape : Shape) (kind : ℕ) (name : List ℕ) (instance : ℕ) (extent : Extent)
    → HasSmallRuns shape kind name instance extent → FitsExtent shape kind name instance extent
extent-fits shape kind name instance extent small =
    let f = front shape name extent in
    let tail = length-tail shape name extent in
    let pairs = padded (pairs_of shape (planned_runs extent)) in
    record {
      kind_fits = omega (arith, small.kind_fits);
      name_fits = small.name_fits;
      flags_fits = small.flags_fits;
      instance_fits = small.instance_fits;
      length_fits = omega (arith, f.most, pairs.most, small.name_fits, small.pairs_fit);
      lowest_fits = omega (arith, small.lowest_fits);
      highest_fits = omega arith;
      place_fits = omega (arith, f.most, small.name_fits);
      unit_fits = small.unit_fits;
      allocated_fits = small.allocated_fits;
      size_fits = small.size_fits;
      initialised_fits = small.initialised_fits;
    }

reads-extent : (shape : Shape) (kind : ℕ) (name : List ℕ) (instance : ℕ) (extent : Extent)
    → HasSmallRuns shape kind name instance extent
    → IsExtentOf shape kind name instance extent (nonresident_bytes shape kind name instance extent)
reads-extent shape kind name instance extent small =
    subst (IsExtentOf shape kind name instance extent) (append-nil (nonresident_bytes shape kind name instance extent))
    (extent-read shape kind name instance extent [] (extent-fits shape kind name instance extent small))

next-back : (next : ℕ) → next ≤ 2 ^ 40 → next_of ((next + (2 ^ 64 - 1)) % 2 ^ 64) ≡ next
next-back next fits = omega arith

extent-raw : (shape : Shape) (kind : ℕ) (name : List ℕ) (instance : ℕ) (extent : Extent)
    → HasSmallRuns shape kind name instance extent → IsRaw (nonresident_bytes shape kind name instance extent)
extent-raw shape kind name instance extent small =
    let r = reads-extent shape kind name instance extent small in
    let long = length-extent shape kind name instance extent in
    let f = front shape name extent in
    let tail = length-tail shape name extent in
    let pairs = padded (pairs_of shape (planned_runs extent)) in
    let next_is = ap next_of r.highest ∙ next-back (extent_next shape extent) small.next_fits in
    record {
      long = r.length_is ∙ sym long;
      sound = record {
        aligned = omega (arith, r.length_is, f.aligned, pairs.aligned);
        more = omega (arith, r.length_is);
        ends = omega (arith, r.length_is);
        residence = omega (arith, r.residence);
        name = λ some. omega (arith, r.name_units, r.name_offset, r.length_is, f.least);
        resident = λ is. absurd (omega (arith, r.residence));
        runs = λ is. record {
          fields = omega (arith, r.length_is);
          begins = omega (arith, r.pairs_offset);
          ends = omega (arith, r.pairs_offset, r.length_is);
          lowest = omega (arith, r.lowest, small.lowest_fits);
          next = omega (arith, r.lowest, next_is);
          highest = omega (arith, next_is, small.next_fits);
        };
      };
      kind = λ is. absurd (omega (arith, r.kind_is, small.kind_fits));
    }

-- the name stands at 0x40, where there is one
front-named : (shape : Shape) (name : List ℕ) (extent : Extent) → extent.compressed_size ≡ None
    → front_bytes shape name extent ≡ with_padding (utf16_bytes name)
unfolding front_bytes compressed_size_bytes
front-named shape name extent none =
    ap (λ told. compressed_size_bytes shape told ++ with_padding (utf16_bytes name)) none

name-is : (shape : Shape) (kind : ℕ) (name : List ℕ) (instance : ℕ) (extent : Extent)
    → (name ≡ []) ⊎ (extent.compressed_size ≡ None)
    → piece_at (0 + 64) (2 * length name) (nonresident_bytes shape kind name instance extent) ≡ utf16_bytes name
unfolding piece_at utf16_bytes
name-is shape kind name instance extent (inl none) =
    subst
    (λ n. piece_at (0 + 64) (2 * length n) (nonresident_bytes shape kind n instance extent) ≡ utf16_bytes n)
    (sym none) refl
name-is shape kind name instance extent (inr none) =
    let fields = run_fields shape kind name instance extent in
    let units = utf16_bytes name in
    let pairs = made_pairs shape extent in
    let padding = padding-of (utf16_bytes name) in
    let whole : nonresident_bytes shape kind name instance extent ≡ fields ++ (units ++ (padding.0 ++ pairs))
    = extent-is shape kind name instance extent
    ∙ ap (λ bytes. fields ++ (bytes ++ pairs)) (front-named shape name extent none ∙ padding.1)
    ∙ ap (λ bytes. fields ++ bytes) (append_assoc units padding.0 pairs) in
    ap (piece_at (0 + 64) (2 * length name)) whole
    ∙ piece-between (0 + 64) (2 * length name) fields units (padding.0 ++ pairs)
    (sym (length-run_fields shape kind name instance extent)) (sym (length-units name))

-- the pairs stand behind the front, up to the end
abbrev pairs_room : Shape → List ℕ → Extent → ℕ
pairs_room shape name extent = 64 + length (tail_bytes shape name extent) - pairs_place shape name extent

pairs-are : (shape : Shape) (kind : ℕ) (name : List ℕ) (instance : ℕ) (extent : Extent)
    → piece_at (0 + pairs_place shape name extent) (pairs_room shape name extent)
    (nonresident_bytes shape kind name instance extent) ≡ made_pairs shape extent
pairs-are shape kind name instance extent =
    let fields = run_fields shape kind name instance extent in
    let before = front_bytes shape name extent in
    let pairs = made_pairs shape extent in
    let long = length-run_fields shape kind name instance extent in
    let tail = length-tail shape name extent in
    let both = length-append fields before in
    let whole : nonresident_bytes shape kind name instance extent ≡ (fields ++ before) ++ (pairs ++ [])
    = extent-is shape kind name instance extent ∙ sym (append_assoc fields before pairs)
    ∙ ap (λ bytes. (fields ++ before) ++ bytes) (sym (append-nil pairs)) in
    ap (piece_at (0 + pairs_place shape name extent) (pairs_room shape name extent)) whole
    ∙ piece-between (0 + pairs_place shape name extent) (pairs_room shape name extent) (fields ++ before) pairs []
    (omega (arith, long, both)) (omega (arith, tail))

-- the eight bytes at 0x40 are the front's, where it has as many
front-piece : (shape : Shape) (kind : ℕ) (name : List ℕ) (instance : ℕ) (extent : Extent)
    → 8 ≤ length (front_bytes shape name extent)
    → piece_at (0 + 0x40) 8 (nonresident_bytes shape kind name instance extent) ≡ take 8 (front_bytes shape name extent)
unfolding piece_at
front-piece shape kind name instance extent some =
    let fields = run_fields shape kind name instance extent in
    let behind = front_bytes shape name extent ++ made_pairs shape extent in
    let at : 0 + 0x40 ≡ length (run_fields shape kind name instance extent)
    = sym (length-run_fields shape kind name instance extent) in
    ap (λ bytes. take 8 (drop (0 + 0x40) bytes)) (extent-is shape kind name instance extent)
    ∙ ap (λ n. take 8 (drop n (fields ++ behind))) at
    ∙ ap (take 8) (drop-append_seam fields behind)
    ∙ take-append-le 8 (front_bytes shape name extent) (made_pairs shape extent) some

packed-is : (shape : Shape) (kind : ℕ) (name : List ℕ) (instance : ℕ) (extent : Extent)
    → cond (leb 72 (pairs_place shape name extent))
    (piece_at (0 + 0x40) 8 (nonresident_bytes shape kind name instance extent)) []
    ≡ take 8 (front_bytes shape name extent)
packed-is shape kind name instance extent =
    let f = front shape name extent in
    elim (cases_lt (length (front_bytes shape name extent)) 8) [
      | inl short ↦
          let none : front_bytes shape name extent ≡ []
          = nil_from_length (front_bytes shape name extent) (omega (arith, f.aligned)) in
          let test = lt-leb 72 (pairs_place shape name extent) (omega arith) in
          rw test (ap (take 8) (sym none))
      | inr some ↦
          let test = le-leb 72 (pairs_place shape name extent) (omega arith) in
          rw test (front-piece shape kind name instance extent some)
    ]

runs-are : (raw : List ℕ) → non_resident_at 0 raw ≡ 1 → attribute_of raw ≡ runs_at 0 raw
runs-are raw is = rw is refl

extent-says : (shape : Shape) (kind : ℕ) (name : List ℕ) (instance : ℕ) (extent : Extent)
    → HasSmallRuns shape kind name instance extent
    → attribute_of (nonresident_bytes shape kind name instance extent)
    ≡ record { face = extent_face shape kind name instance extent; payload = extent_laid shape name extent }
unfolding runs_at
extent-says shape kind name instance extent small =
    let raw = nonresident_bytes shape kind name instance extent in
    let r = reads-extent shape kind name instance extent small in
    let name_read : name_at 0 raw ≡ utf16_bytes name
    = rw (r.name_offset, r.name_units) (name-is shape kind name instance extent small.one) in
    let pairs_read : pairs_at 0 raw ≡ made_pairs shape extent
    = rw (r.pairs_offset, r.length_is) (pairs-are shape kind name instance extent) in
    let packed_read : cond (leb 72 (pairs_offset_at 0 raw)) (piece_at (0 + 0x40) 8 raw) []
    ≡ take 8 (front_bytes shape name extent)
    = rw r.pairs_offset (packed-is shape kind name instance extent) in
    let next_read : next_at 0 raw ≡ extent_next shape extent
    = ap next_of r.highest ∙ next-back (extent_next shape extent) small.next_fits in
    let unit_read = unit-is shape kind name instance extent in
    runs-are raw r.residence
    ∙ rw (name_read, pairs_read, packed_read, next_read, unit_read, r.kind_is, r.flags, r.instance_is, r.lowest)
    (rw (r.allocated, r.size, r.initialised, r.name_offset, r.pairs_offset) refl)

pub extent-spelt : (shape : Shape) (kind : ℕ) (name : List ℕ) (instance : ℕ) (extent : Extent)
    → HasSmallRuns shape kind name instance extent
    → IsSpelt (nonresident_bytes shape kind name instance extent)
    (record { face = extent_face shape kind name instance extent; payload = extent_laid shape name extent })
extent-spelt shape kind name instance extent small = record {
  is = extent-raw shape kind name instance extent small;
  says = extent-says shape kind name instance extent small;
}

-- how long it is at most
pub extent-short : (shape : Shape) (kind : ℕ) (name : List ℕ) (instance : ℕ) (extent : Extent)
    → length (pairs_of shape (planned_runs extent)) ≤ 64
    → length (nonresident_bytes shape kind name instance extent) ≤ 150 + 2 * length name
extent-short shape kind name instance extent few =
    let long = length-extent shape kind name instance extent in
    let f = front shape name extent in
    let tail = length-tail shape name extent in
    let pairs = padded (pairs_of shape (planned_runs extent)) in
    omega (arith, f.most, pairs.most)
