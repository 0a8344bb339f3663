-- Where the name of an attribute stands, by its own bytes.
use Rattle.std.proofs.Common.{◌≡◌, ◌≤◌, ◌<◌, ◌+◌, ◌-◌, ◌*◌, ◌==◌, ◌&&◌, ◌||◌, inl, inr, ℕ, Bool, true, false, List, [], ◌∷◌, length, map, take, drop, refl, sym, ap, ◌∙◌, arith, nat_le, if◌then◌else◌}
use Rattle.std.specs.Prelude.{All}
use Rattle.std.specs.List.{list_all}
use Rattle.std.proofs.lemmas.List.{length-drop, length-take}
use Rattle.std.proofs.lemmas.List.Elements.{All-cons, All-head, All-nil, All-rest}
use Rattle.std.proofs.lemmas.Bool.{cases_lt}
use Rattle.std.proofs.lemmas.Bool.Decides.{nat_tests}
use Rattle.ntfs_base.specs.Bytes.{piece_at}
use Rattle.ntfs_base.proofs.PieceLemmas.{length-piece, length-piece-le}
use Rattle.ntfs_check_clusters.specs.Asked.{has_names_between, is_name_between}
use Rattle.ntfs_rules.specs.Records.{has_name_between}
use Rattle.ntfs_record.specs.Attribute.{IsRaw, name_at, resident_at, runs_at}
use Rattle.ntfs_record.proofs.StandsLemmas.{same_fields}
use Rattle.ntfs_record.specs.FileRecord.{Attribute, FileRecord, Laid}
use Rattle.ntfs_record.specs.IsRecord.{IsKept, IsKeptRaw, LiesIn}
use Rattle.ntfs_record.specs.Layout.{length_at, name_offset_at, name_units_at, non_resident_at, pairs_offset_at, value_offset_at}
use Rattle.ntfs_record.specs.Spelling.{Stands}
use Rattle.ntfs_record.specs.Views.{Placed, Shown, placed_from, placed_of, shown_placed}
use Rattle.ntfs_volume.specs.Located.{located_of}

is-zero : (n : ℕ) → n ≡ 0 → (n == 0) ≡ true
is-zero n is = grind (arith, nat_tests)

not-zero : (n : ℕ) → (n ≡ 0 → ⊥) → (n == 0) ≡ false
not-zero n some = grind (arith, nat_tests)

name-long : (raw : List ℕ) → IsRaw raw → length (name_at 0 raw) ≡ 2 * name_units_at 0 raw
name-long raw is = elim (cases_lt 0 (name_units_at 0 raw)) [
  | inl some ↦ length-piece (0 + name_offset_at 0 raw) (2 * name_units_at 0 raw) raw (omega (arith, is.sound.name some, is.long))
  | inr none ↦ omega (arith, length-piece-le (0 + name_offset_at 0 raw) (2 * name_units_at 0 raw) raw, none)
]

-- the test of an attribute that says this
tested : Attribute (Laid (List ℕ)) → Bool
tested a = has_name_between (record { face = a.face; payload = record { place = 0; payload = a.payload } })

resident-between : (raw : List ℕ) → non_resident_at 0 raw ≡ 0
    → is_name_between raw ≡ ((length (name_at 0 raw) == 0) || (nat_le 24 (name_offset_at 0 raw) && nat_le (name_offset_at 0 raw + length (name_at 0 raw)) (value_offset_at 0 raw)))
unfolding tested has_name_between resident_at
resident-between raw is = ap (λ b. tested (if b then resident_at 0 raw else runs_at 0 raw)) (is-zero (non_resident_at 0 raw) is)

runs-between : (raw : List ℕ) → (non_resident_at 0 raw ≡ 0 → ⊥)
    → is_name_between raw ≡ ((length (name_at 0 raw) == 0) || (nat_le 64 (name_offset_at 0 raw) && nat_le (name_offset_at 0 raw + length (name_at 0 raw)) (pairs_offset_at 0 raw)))
unfolding tested has_name_between runs_at
runs-between raw is = ap (λ b. tested (if b then resident_at 0 raw else runs_at 0 raw)) (not-zero (non_resident_at 0 raw) is)

no-name : (raw : List ℕ) (least body : ℕ) → length (name_at 0 raw) ≡ 0 → true ≡ ((length (name_at 0 raw) == 0) || (nat_le least (name_offset_at 0 raw) && nat_le (name_offset_at 0 raw + length (name_at 0 raw)) body))
no-name raw least body none = rw (is-zero (length (name_at 0 raw)) none) refl

pub between-none : (raw : List ℕ) (units : ℕ) → IsRaw raw → units ≡ name_units_at 0 raw → units ≡ 0 → true ≡ is_name_between raw
between-none raw units is same none =
    let long : length (name_at 0 raw) ≡ 0 = omega (arith, name-long raw is, same, none) in
    elim (cases_lt 0 (non_resident_at 0 raw)) [
      | inl runs ↦ no-name raw 64 (pairs_offset_at 0 raw) long ∙ sym (runs-between raw (λ zero. omega (arith, zero, runs)))
      | inr resident ↦ no-name raw 24 (value_offset_at 0 raw) long ∙ sym (resident-between raw (omega (arith, resident)))
    ]

both : (len off body least begin units end : ℕ) → len ≡ 2 * units → (units ≡ 0 → ⊥) → begin ≡ off → end ≡ body → least ≤ begin
    → nat_le (begin + 2 * units) end ≡ ((len == 0) || (nat_le least off && nat_le (off + len) body))
both len off body least begin units end long some place ends above = grind (arith, nat_tests)

early : (len off body least begin units : ℕ) → len ≡ 2 * units → (units ≡ 0 → ⊥) → begin ≡ off → begin < least
    → nat_le least begin ≡ ((len == 0) || (nat_le least off && nat_le (off + len) body))
early len off body least begin units long some place above = grind (arith, nat_tests)

pub between-value : (raw : List ℕ) (units begin end flag : ℕ) → IsRaw raw → units ≡ name_units_at 0 raw → (units ≡ 0 → ⊥) → begin ≡ name_offset_at 0 raw → end ≡ value_offset_at 0 raw → flag ≡ non_resident_at 0 raw → flag ≡ 0 → 24 ≤ begin
    → nat_le (begin + 2 * units) end ≡ is_name_between raw
between-value raw units begin end flag is same some place ends told none above =
    both (length (name_at 0 raw)) (name_offset_at 0 raw) (value_offset_at 0 raw) 24 begin units end (omega (arith, name-long raw is, same)) some place ends above
    ∙ sym (resident-between raw (omega (arith, told, none)))

pub early-value : (raw : List ℕ) (units begin flag : ℕ) → IsRaw raw → units ≡ name_units_at 0 raw → (units ≡ 0 → ⊥) → begin ≡ name_offset_at 0 raw → flag ≡ non_resident_at 0 raw → flag ≡ 0 → begin < 24
    → nat_le 24 begin ≡ is_name_between raw
early-value raw units begin flag is same some place told none above =
    early (length (name_at 0 raw)) (name_offset_at 0 raw) (value_offset_at 0 raw) 24 begin units (omega (arith, name-long raw is, same)) some place above
    ∙ sym (resident-between raw (omega (arith, told, none)))

pub between-pairs : (raw : List ℕ) (units begin end flag : ℕ) → IsRaw raw → units ≡ name_units_at 0 raw → (units ≡ 0 → ⊥) → begin ≡ name_offset_at 0 raw → end ≡ pairs_offset_at 0 raw → flag ≡ non_resident_at 0 raw → (flag ≡ 0 → ⊥) → 64 ≤ begin
    → nat_le (begin + 2 * units) end ≡ is_name_between raw
between-pairs raw units begin end flag is same some place ends told one above =
    both (length (name_at 0 raw)) (name_offset_at 0 raw) (pairs_offset_at 0 raw) 64 begin units end (omega (arith, name-long raw is, same)) some place ends above
    ∙ sym (runs-between raw (λ zero. one (told ∙ zero)))

pub early-pairs : (raw : List ℕ) (units begin flag : ℕ) → IsRaw raw → units ≡ name_units_at 0 raw → (units ≡ 0 → ⊥) → begin ≡ name_offset_at 0 raw → flag ≡ non_resident_at 0 raw → (flag ≡ 0 → ⊥) → begin < 64
    → nat_le 64 begin ≡ is_name_between raw
early-pairs raw units begin flag is same some place told one above =
    early (length (name_at 0 raw)) (name_offset_at 0 raw) (pairs_offset_at 0 raw) 64 begin units (omega (arith, name-long raw is, same)) some place above
    ∙ sym (runs-between raw (λ zero. one (told ∙ zero)))

-- ---- the attributes of a record, one after the other

-- the attributes that are left show this, lie in the record's bytes, and decide with those before them, which all passed
pub record Remaining (bytes : List ℕ) (file : FileRecord) (shown : List Shown) : Type 0 where
  pub left : List Placed
  pub shows : map shown_placed left ≡ shown
  pub lie : All (LiesIn bytes) left
  pub kept : All (λ (p : Placed). IsRaw p.raw) left
  pub same : list_all has_name_between (map located_of left) ≡ has_names_between file

-- the next attribute lies in the record's bytes
pub record NextName (bytes : List ℕ) (file : FileRecord) (place : ℕ) (rest : List Shown) : Type 0 where
  pub raw : List ℕ
  pub is : IsRaw raw
  pub stands : Stands place raw bytes
  pub within : place + length raw ≤ length bytes
  pub fails : is_name_between raw ≡ false → has_names_between file ≡ false
  pub passes : is_name_between raw ≡ true → Remaining bytes file rest

stands-within : (bytes raw : List ℕ) (place : ℕ) → 0 < length raw → Stands place raw bytes → place + length raw ≤ length bytes
unfolding piece_at
stands-within bytes raw place some stands = omega (arith, ap length stands, length-take (length raw) (drop place bytes), length-drop place bytes, some)

place-apart : (p : Placed) → has_name_between (located_of p) ≡ is_name_between p.raw
unfolding has_name_between
place-apart p = refl

name-fails : (a rest : Bool) (b : Bool) → (a && rest) ≡ b → a ≡ false → b ≡ false
name-fails a rest b same fails = sym same ∙ rw fails refl

name-passes : (a rest : Bool) (b : Bool) → (a && rest) ≡ b → a ≡ true → rest ≡ b
name-passes a rest b same passes = sym (rw passes refl) ∙ same

pub next-name : (bytes : List ℕ) (file : FileRecord) (shown rest : List Shown) (x : Shown) → Remaining bytes file shown → shown ≡ x ∷ rest → NextName bytes file x.place rest
next-name bytes file shown rest x remaining first = go remaining.left (remaining.shows ∙ first) remaining.lie remaining.kept remaining.same
  where
    go : (left : List Placed) → map shown_placed left ≡ x ∷ rest → All (LiesIn bytes) left → All (λ (p : Placed). IsRaw p.raw) left
        → list_all has_name_between (map located_of left) ≡ has_names_between file → NextName bytes file x.place rest
    go [] shows lie kept same = absurd cc
    go (p ∷ left) shows lie kept same =
        let lies = All-head (LiesIn bytes) p left lie in
        let head : shown_placed p ≡ x = cc in
        let place : p.place ≡ x.place = ap (λ (s : Shown). s.place) head in
        record {
          raw = p.raw;
          is = All-head (λ (p : Placed). IsRaw p.raw) p left kept;
          stands = ap (λ k. piece_at k (length p.raw) bytes) (sym place) ∙ sym lies.is;
          within = stands-within bytes p.raw x.place (omega (arith, lies.more)) (ap (λ k. piece_at k (length p.raw) bytes) (sym place) ∙ sym lies.is);
          fails = λ fails. name-fails (has_name_between (located_of p)) _ _ same (place-apart p ∙ fails);
          passes = λ passes. record {
            left = left;
            shows = cc;
            lie = All-rest (LiesIn bytes) p left (p ∷ left) refl lie;
            kept = All-rest (λ (p : Placed). IsRaw p.raw) p left (p ∷ left) refl kept;
            same = name-passes (has_name_between (located_of p)) _ _ same (place-apart p ∙ passes);
          };
        }

pub no-names : (bytes : List ℕ) (file : FileRecord) (shown : List Shown) → Remaining bytes file shown → shown ≡ [] → true ≡ has_names_between file
no-names bytes file shown remaining none = go remaining.left (remaining.shows ∙ none) remaining.same
  where
    go : (left : List Placed) → map shown_placed left ≡ [] → list_all has_name_between (map located_of left) ≡ has_names_between file → true ≡ has_names_between file
    go [] shows same = same
    go (p ∷ left) shows same = absurd cc

raws-kept : (place : ℕ) (raws : List (List ℕ)) → All IsKeptRaw raws → All (λ (p : Placed). IsRaw p.raw) (placed_from place raws)
raws-kept place [] all = All-nil _
raws-kept place (raw ∷ raws) all =
    All-cons (λ (p : Placed). IsRaw p.raw) (record { place = place; raw = raw }) (placed_from (place + length raw) raws) (All-head IsKeptRaw raw raws all).is
    (raws-kept (place + length raw) raws (All-rest IsKeptRaw raw raws (raw ∷ raws) refl all))

pub all-names : (bytes : List ℕ) (file : FileRecord) (shown : List Shown) → IsKept bytes file → shown ≡ map shown_placed (placed_of file) → Remaining bytes file shown
all-names bytes file shown kept is = record {
  left = placed_of file;
  shows = sym is;
  lie = kept.lie;
  kept = raws-kept file.layout.first_attribute file.raws kept.kept;
  same = refl;
}

-- an attribute's own bytes, as they are cut out of the record's
pub own-bytes : (bytes raw : List ℕ) (place count : ℕ) → Stands place raw bytes → IsRaw raw → count ≡ length_at place bytes → take (place + count - place) (drop place bytes) ≡ raw
unfolding piece_at
own-bytes bytes raw place count stands is said =
    let fields = same_fields place raw bytes stands (omega (arith, is.sound.more, is.long)) in
    let long : place + count - place ≡ length raw = omega (arith, said, fields.long, is.long) in
    ap (λ k. take k (drop place bytes)) long ∙ stands

pub own-within : (bytes raw : List ℕ) (place count : ℕ) → Stands place raw bytes → IsRaw raw → place + length raw ≤ length bytes → count ≡ length_at place bytes → place + count ≤ length bytes
own-within bytes raw place count stands is within said =
    let fields = same_fields place raw bytes stands (omega (arith, is.sound.more, is.long)) in
    omega (arith, said, fields.long, is.long, within)
