-- The rows of the table, of which one test says that all their attributes can be read back, whatever the volume.
use Rattle.std.proofs.Common.{◌≡◌, ◌≤◌, ◌<◌, ◌+◌, ◌*◌, ◌%◌, ◌^◌, ◌==◌, ◌&&◌, ◌||◌, ◌⊎◌, inl, inr, ℕ, zero, suc, List, [], ◌∷◌, ◌++◌, length, Bool, true, false, nat_le, nat_lt, refl, sym, ap, ◌∙◌, arith}
use Rattle.std.specs.Prelude.{Option, Some, None, slice_get}
use Rattle.std.specs.List.{AllByRecursion, list_all}
use Rattle.std.proofs.lemmas.Bool.{and_parts, eqb-true, leb-true, ltb-true, or_cases}
use Rattle.std.proofs.lemmas.List.{length-append, length-replicate}
use Rattle.std.proofs.lemmas.List.Sums.{count_by-le-length}
use Rattle.ntfs_record.specs.FileRecord.{Attribute, Laid}
use Rattle.ntfs_make.specs.declared.shape.Shape.{Shape}
use Rattle.ntfs_make.specs.declared.table.Extent.{Extent}
use Rattle.ntfs_make.specs.declared.table.ListEntry.{ListEntry}
use Rattle.ntfs_make.specs.declared.table.Size.{Size}
use Rattle.ntfs_make.specs.Attributes.{attribute_bytes, attributes_bytes, body_bytes, list_bytes, list_entry_bytes, resident_bytes, value_of}
use Rattle.ntfs_make.specs.Fields.{fields_bytes, zero_bytes}
use Rattle.ntfs_make.specs.Index.{child_bytes, end_bytes, entry_bytes, file_name_bytes, root_bytes, root_entries}
use Rattle.ntfs_make.specs.Records.{base_reference, is_name, link_count}
use Rattle.ntfs_make.specs.Rows.{file_rows, kind_rows, rows, spare_rows, system_rows}
use Rattle.ntfs_make.specs.Shape.{IsShape}
use Rattle.ntfs_make.specs.Table.{AttributeValue, BodyValue, ZerosBody, BytesBody, ListBody, NameBody, RootBody, ExtentBody, NameValue, RootValue, ChildRoot, EmptyRoot, OneRoot, RowValue}
use Rattle.ntfs_made_records.specs.Made.{HasBodyCells, HaveMadeCells, body_face, body_laid, made_face, made_laid, resident_face, resident_laid}
use Rattle.ntfs_made_records.proofs.ClusterLemmas.{IsPlanned, is-planned, is_small_extent}
use Rattle.ntfs_made_records.proofs.ExtentLemmas.{HasSmallRuns, extent-short, extent-spelt}
use Rattle.ntfs_made_records.proofs.PaddingLemmas.{length-units, padded}
use Rattle.ntfs_made_records.proofs.RecordLemmas.{AllSpelt, IsSmallRow, made_attribute}
use Rattle.ntfs_made_records.proofs.SpeltLemmas.{HasSmallValue, IsSpelt, resident-short, resident-spelt}

-- ---- values

-- how many bytes a resident value has at most
abbrev root_most : RootValue → ℕ
root_most ChildRoot = 56
root_most EmptyRoot = 48
root_most (OneRoot number file) = 137 + 2 * length file.letters

abbrev value_most : BodyValue → ℕ
value_most (ZerosBody count) = count
value_most (BytesBody bytes) = length bytes
value_most (ListBody entries) = 32 * length entries
value_most (NameBody file) = 66 + 2 * length file.letters
value_most (RootBody node) = root_most node
value_most (ExtentBody extent) = 0

length-entries : (shape : Shape) (entries : List ListEntry) → length (list_bytes shape entries) ≡ 32 * length entries
unfolding list_bytes list_entry_bytes fields_bytes zero_bytes
length-entries shape [] = refl
length-entries shape (entry ∷ entries) = let rest = length-entries shape entries in omega arith

length-name : (file : NameValue) → length (file_name_bytes file) ≡ 66 + 2 * length file.letters
unfolding file_name_bytes fields_bytes zero_bytes
length-name file = let units = length-units file.letters in omega arith

length-entry : (number : ℕ) (file : NameValue) → length (entry_bytes number file) ≤ 89 + 2 * length file.letters
unfolding entry_bytes fields_bytes
length-entry number file =
    let name = length-name file in
    let key = padded (file_name_bytes file) in
    omega (arith, key.most)

length-node : (node : RootValue) → 32 + length (root_entries node) ≤ root_most node
unfolding root_entries child_bytes end_bytes fields_bytes
length-node ChildRoot = omega arith
length-node EmptyRoot = omega arith
length-node (OneRoot number file) =
    let entry = length-entry number file in
    let both = length-append (entry_bytes number file) end_bytes in
    omega arith

length-root : (shape : Shape) (node : RootValue) → length (root_bytes shape node) ≡ 32 + length (root_entries node)
unfolding root_bytes fields_bytes zero_bytes
length-root shape node = omega arith

value-short : (shape : Shape) (body : BodyValue) → length (value_of shape body) ≤ value_most body
unfolding value_of zero_bytes
value-short shape (ZerosBody count) = omega (arith, length-replicate {A = ℕ} count 0)
value-short shape (BytesBody bytes) = omega arith
value-short shape (ListBody entries) = omega (arith, length-entries shape entries)
value-short shape (NameBody file) = omega (arith, length-name file)
value-short shape (RootBody node) = omega (arith, length-root shape node, length-node node)
value-short shape (ExtentBody extent) = omega arith

-- ---- attributes

abbrev is_unnamed : List ℕ → Bool
is_unnamed [] = true
is_unnamed (letter ∷ letters) = false

abbrev tells_none : Option Size → Bool
tells_none None = true
tells_none (Some size) = false

-- the numbers of a body are small
abbrev body_fits : List ℕ → BodyValue → Bool
body_fits name (ExtentBody extent) = is_small_extent extent && (is_unnamed name || tells_none extent.compressed_size)
body_fits name (ZerosBody count) = nat_lt (value_most (ZerosBody count)) 65536
body_fits name (BytesBody bytes) = nat_lt (value_most (BytesBody bytes)) 65536
body_fits name (ListBody entries) = nat_lt (value_most (ListBody entries)) 65536
body_fits name (NameBody file) = nat_lt (value_most (NameBody file)) 65536
body_fits name (RootBody node) = nat_lt (value_most (RootBody node)) 65536

-- those of an attribute
abbrev attribute_fits : AttributeValue → Bool
attribute_fits attribute =
    nat_lt attribute.kind 0xFFFFFFFF && (nat_lt (length attribute.name) 256 && body_fits attribute.name attribute.body)

-- how many bytes an attribute has at most
abbrev body_most : BodyValue → ℕ
body_most (ExtentBody extent) = 150
body_most (ZerosBody count) = 38 + value_most (ZerosBody count)
body_most (BytesBody bytes) = 38 + value_most (BytesBody bytes)
body_most (ListBody entries) = 38 + value_most (ListBody entries)
body_most (NameBody file) = 38 + value_most (NameBody file)
body_most (RootBody node) = 38 + value_most (RootBody node)

abbrev attributes_most : List AttributeValue → ℕ
attributes_most [] = 0
attributes_most (attribute ∷ attributes) =
    body_most attribute.body + 2 * length attribute.name + attributes_most attributes

-- an attribute that is spelled in so many bytes at most
record IsReadBack (raw : List ℕ) (said : Attribute (Laid (List ℕ))) (most : ℕ) : Type 0 where
  spelt : IsSpelt raw said
  short : length raw ≤ most

one-front : (name : List ℕ) (told : Option Size) → (is_unnamed name || tells_none told) ≡ true
    → (name ≡ []) ⊎ (told ≡ None)
one-front [] told is = inl refl
one-front (letter ∷ letters) None is = inr refl
one-front (letter ∷ letters) (Some size) is = absurd cc

-- the numbers of a resident attribute
small-value : (shape : Shape) (kind : ℕ) (name : List ℕ) (instance : ℕ) (body : BodyValue) → kind < 0xFFFFFFFF
    → length name < 256 → instance < 65536 → nat_lt (value_most body) 65536 ≡ true
    → HasSmallValue kind name instance (value_of shape body)
small-value shape kind name instance body kind_fits name_fits instance_fits fits =
    let most = value-short shape body in
    let few = ltb-true (value_most body) 65536 fits in
    record { kind_fits = kind_fits; name_fits = name_fits; instance_fits = omega arith; value_fits = omega arith }

small-runs : (shape : Shape) (kind : ℕ) (name : List ℕ) (instance : ℕ) (extent : Extent) → IsPlanned shape extent
    → kind < 0xFFFFFFFF → length name < 256 → instance < 65536 → (name ≡ []) ⊎ (extent.compressed_size ≡ None)
    → HasSmallRuns shape kind name instance extent
small-runs shape kind name instance extent planned kind_fits name_fits instance_fits one = record {
  kind_fits = kind_fits;
  name_fits = name_fits;
  instance_fits = omega arith;
  flags_fits = omega (arith, planned.flags);
  unit_fits = omega (arith, planned.unit);
  pairs_fit = planned.pairs;
  lowest_fits = planned.lowest;
  next_fits = planned.next;
  allocated_fits = planned.allocated;
  size_fits = planned.size;
  initialised_fits = planned.initialised;
  one = one;
}

value-read : (shape : Shape) (kind : ℕ) (name : List ℕ) (instance : ℕ) (body : BodyValue) → kind < 0xFFFFFFFF
    → length name < 256 → instance < 65536 → nat_lt (value_most body) 65536 ≡ true
    → IsReadBack (resident_bytes kind name instance (value_of shape body))
    (record { face = resident_face kind name instance (value_of shape body); payload = resident_laid name })
    (38 + value_most body + 2 * length name)
value-read shape kind name instance body kind_fits name_fits instance_fits fits =
    let most = value-short shape body in
    let few = resident-short kind name instance (value_of shape body) in
    record {
      spelt = resident-spelt kind name instance (value_of shape body)
          (small-value shape kind name instance body kind_fits name_fits instance_fits fits);
      short = omega arith;
    }

body-read : (shape : Shape) (kind : ℕ) (name : List ℕ) (instance : ℕ) (body : BodyValue) → IsShape shape
    → kind < 0xFFFFFFFF → length name < 256 → instance < 65536 → body_fits name body ≡ true
    → IsReadBack (body_bytes shape kind name instance body)
    (record { face = body_face shape kind name instance body; payload = body_laid shape name body })
    (body_most body + 2 * length name)
body-read shape kind name instance (ExtentBody extent) is kind_fits name_fits instance_fits fits =
    let both = and_parts _ _ fits in
    let planned = is-planned shape extent is both.0 in
    let one = one-front name extent.compressed_size both.1 in
    record {
      spelt = extent-spelt shape kind name instance extent
          (small-runs shape kind name instance extent planned kind_fits name_fits instance_fits one);
      short = extent-short shape kind name instance extent planned.pairs;
    }
body-read shape kind name instance (ZerosBody count) is kind_fits name_fits instance_fits fits =
    value-read shape kind name instance (ZerosBody count) kind_fits name_fits instance_fits fits
body-read shape kind name instance (BytesBody bytes) is kind_fits name_fits instance_fits fits =
    value-read shape kind name instance (BytesBody bytes) kind_fits name_fits instance_fits fits
body-read shape kind name instance (ListBody entries) is kind_fits name_fits instance_fits fits =
    value-read shape kind name instance (ListBody entries) kind_fits name_fits instance_fits fits
body-read shape kind name instance (NameBody file) is kind_fits name_fits instance_fits fits =
    value-read shape kind name instance (NameBody file) kind_fits name_fits instance_fits fits
body-read shape kind name instance (RootBody node) is kind_fits name_fits instance_fits fits =
    value-read shape kind name instance (RootBody node) kind_fits name_fits instance_fits fits

attribute-read : (shape : Shape) (instance : ℕ) (attribute : AttributeValue) → IsShape shape → instance < 65536
    → attribute_fits attribute ≡ true
    → IsReadBack (attribute_bytes shape instance attribute) (made_attribute shape instance attribute)
    (body_most attribute.body + 2 * length attribute.name)
unfolding attribute_bytes made_face made_laid
attribute-read shape instance attribute is instance_fits fits =
    let all = and_parts _ _ fits in
    let both = and_parts _ _ all.1 in
    let kind = ltb-true attribute.kind 0xFFFFFFFF all.0 in
    let name = ltb-true (length attribute.name) 256 both.0 in
    body-read shape attribute.kind attribute.name instance attribute.body is kind name instance_fits both.1

-- ---- attributes in a row

row-spelt : (shape : Shape) (instance : ℕ) (attributes : List AttributeValue) → IsShape shape
    → instance + length attributes ≤ 65536 → list_all attribute_fits attributes ≡ true
    → AllSpelt shape instance attributes
row-spelt shape instance [] is few fits = tt
row-spelt shape instance (attribute ∷ attributes) is few fits =
    let both = and_parts (attribute_fits attribute) (list_all attribute_fits attributes) fits in (
      (attribute-read shape instance attribute is (omega arith) both.0).spelt,
      row-spelt shape (instance + 1) attributes is (omega arith) both.1,
    )

row-short : (shape : Shape) (instance : ℕ) (attributes : List AttributeValue) → IsShape shape
    → instance + length attributes ≤ 65536 → list_all attribute_fits attributes ≡ true
    → length (attributes_bytes shape instance attributes) ≤ attributes_most attributes
row-short shape instance [] is few fits = omega arith
row-short shape instance (attribute ∷ attributes) is few fits =
    let both = and_parts (attribute_fits attribute) (list_all attribute_fits attributes) fits in
    let first = (attribute-read shape instance attribute is (omega arith) both.0).short in
    let rest = row-short shape (instance + 1) attributes is (omega arith) both.1 in
    let others = attributes_bytes shape (instance + 1) attributes in
    let sum = length-append (attribute_bytes shape instance attribute) others in
    omega arith

body-cells : (shape : Shape) (name : List ℕ) (body : BodyValue) → IsShape shape → body_fits name body ≡ true
    → HasBodyCells shape body
body-cells shape name (ExtentBody extent) is fits =
    let both = and_parts _ _ fits in (is-planned shape extent is both.0).cells
body-cells shape name (ZerosBody count) is fits = tt
body-cells shape name (BytesBody bytes) is fits = tt
body-cells shape name (ListBody entries) is fits = tt
body-cells shape name (NameBody file) is fits = tt
body-cells shape name (RootBody node) is fits = tt

row-cells : (shape : Shape) (attributes : List AttributeValue) → IsShape shape
    → list_all attribute_fits attributes ≡ true
    → AllByRecursion (λ attribute. HasBodyCells shape attribute.body) attributes
row-cells shape [] is fits = tt
row-cells shape (attribute ∷ attributes) is fits =
    let both = and_parts (attribute_fits attribute) (list_all attribute_fits attributes) fits in
    let all = and_parts _ _ both.0 in
    let rest = and_parts _ _ all.1 in
    (body-cells shape attribute.name attribute.body is rest.1, row-cells shape attributes is both.1)

-- ---- rows

abbrev base_is_small : Option ℕ → Bool
base_is_small None = true
base_is_small (Some number) = nat_lt number 65536

-- a row can be read back as the record of a number
abbrev row_fits : ℕ → RowValue → Bool
row_fits r row =
    ((row.number == r) && (nat_lt row.number 65536 && nat_lt row.flags 65536))
    && (((row.flags == 0) || (row.flags % 2 == 1)) && (base_is_small row.base
    && (nat_lt (length row.attributes) 65536
    && (nat_le (attributes_most row.attributes) 960 && list_all attribute_fits row.attributes))))

-- rows can be read back as the records from a number on
abbrev rows_fit : ℕ → List RowValue → Bool
rows_fit r [] = true
rows_fit r (row ∷ rest) = row_fits r row && rows_fit (r + 1) rest

system-fit : rows_fit 0 system_rows ≡ true
unfolding system_rows
system-fit = refl

kinds-fit : rows_fit 16 kind_rows ≡ true
unfolding kind_rows
kinds-fit = refl

files-fit : rows_fit 32 file_rows ≡ true
unfolding file_rows
files-fit = refl

spare-fit : rows_fit 48 spare_rows ≡ true
unfolding spare_rows
spare-fit = refl

rows-both : (r : ℕ) (front rest : List RowValue) → rows_fit r front ≡ true → rows_fit (r + length front) rest ≡ true
    → rows_fit r (front ++ rest) ≡ true
rows-both r [] rest first others = ap (λ n. rows_fit n rest) (omega arith) ∙ others
rows-both r (row ∷ front) rest first others =
    let both = and_parts (row_fits r row) (rows_fit (r + 1) front) first in
    let next : r + 1 + length front ≡ r + length (row ∷ front) = omega arith in
    let behind = rows-both (r + 1) front rest both.1 (ap (λ n. rows_fit n rest) next ∙ others) in
    rw (both.0, behind) refl

length-system : length system_rows ≡ 16
unfolding system_rows
length-system = refl

length-kinds : length kind_rows ≡ 16
unfolding kind_rows
length-kinds = refl

length-files : length file_rows ≡ 16
unfolding file_rows
length-files = refl

rows-fit : rows_fit 0 rows ≡ true
rows-fit =
    rows-both 0 system_rows (kind_rows ++ (file_rows ++ spare_rows)) system-fit
    (rw length-system (rows-both 16 kind_rows (file_rows ++ spare_rows) kinds-fit
    (rw length-kinds (rows-both 32 file_rows spare_rows files-fit (rw length-files spare-fit)))))

row-at : (r i : ℕ) (some : List RowValue) (row : RowValue) → rows_fit r some ≡ true → slice_get some i ≡ Some row
    → row_fits (r + i) row ≡ true
row-at r i [] row fit at = absurd cc
row-at r zero (first ∷ rest) row fit at =
    let both = and_parts (row_fits r first) (rows_fit (r + 1) rest) fit in
    let same : first ≡ row = cc in
    ap (λ n. row_fits n row) (omega arith) ∙ ap (row_fits r) (sym same) ∙ both.0
row-at r (suc i) (first ∷ rest) row fit at =
    let both = and_parts (row_fits r first) (rows_fit (r + 1) rest) fit in
    ap (λ n. row_fits n row) (omega arith) ∙ row-at (r + 1) i rest row both.1 at

-- what the test says of a row
record RowParts (r : ℕ) (row : RowValue) : Type 0 where
  number : row.number ≡ r
  number_fits : row.number < 65536
  flags_fit : row.flags < 65536
  odd : (row.flags == 0) ≡ false → row.flags % 2 ≡ 1
  base_fits : base_reference row.base < 2 ^ 64
  few : length row.attributes < 65536
  short : attributes_most row.attributes ≤ 960
  all : list_all attribute_fits row.attributes ≡ true

base-small : (base : Option ℕ) → base_is_small base ≡ true → base_reference base < 2 ^ 64
base-small None fits = omega arith
base-small (Some number) fits = let few = ltb-true number 65536 fits in omega arith

odd-flags : (flags : ℕ) → ((flags == 0) || (flags % 2 == 1)) ≡ true → (flags == 0) ≡ false → flags % 2 ≡ 1
odd-flags flags either used = elim (or_cases (flags == 0) (flags % 2 == 1) either) [
  | inl none ↦ absurd (cc (used, none))
  | inr odd ↦ eqb-true (flags % 2) 1 odd
]

row-parts : (r : ℕ) (row : RowValue) → row_fits r row ≡ true → RowParts r row
row-parts r row fits =
    let all = and_parts _ _ fits in
    let numbers = and_parts _ _ all.0 in
    let sizes = and_parts _ _ numbers.1 in
    let flags = and_parts _ _ all.1 in
    let base = and_parts _ _ flags.1 in
    let count = and_parts _ _ base.1 in
    let attributes = and_parts _ _ count.1 in
    record {
      number = eqb-true row.number r numbers.0;
      number_fits = ltb-true row.number 65536 sizes.0;
      flags_fit = ltb-true row.flags 65536 sizes.1;
      odd = odd-flags row.flags flags.0;
      base_fits = base-small row.base base.0;
      few = ltb-true (length row.attributes) 65536 count.0;
      short = leb-true (attributes_most row.attributes) 960 attributes.0;
      all = attributes.1;
    }

links-few : (attributes : List AttributeValue) → link_count attributes ≤ length attributes
unfolding link_count
links-few attributes = count_by-le-length is_name attributes

-- what holds of the row of a number
pub record IsTableRow (shape : Shape) (r : ℕ) (row : RowValue) : Type 0 where
  pub number : row.number ≡ r
  pub odd : (row.flags == 0) ≡ false → row.flags % 2 ≡ 1
  pub small : IsSmallRow shape row
  pub cells : HaveMadeCells shape row

pub table-row : (shape : Shape) (r : ℕ) (row : RowValue) → IsShape shape → slice_get rows r ≡ Some row
    → IsTableRow shape r row
table-row shape r row is at =
    let here : r ≡ 0 + r = omega arith in
    let p = row-parts r row (ap (λ n. row_fits n row) here ∙ row-at 0 r rows row rows-fit at) in
    let long = row-short shape 0 row.attributes is (omega (arith, p.few)) p.all in
    let links = links-few row.attributes in
    record {
      number = p.number;
      odd = p.odd;
      small = record {
        small = record {
          room = omega (arith, p.short);
          header = record {
            links = omega (arith, p.few);
            flags = omega (arith, p.flags_fit);
            in_use = omega (arith, p.short);
            base = p.base_fits;
            count = omega (arith, p.few);
            number = omega (arith, p.number_fits);
          };
        };
        all = row-spelt shape 0 row.attributes is (omega (arith, p.few)) p.all;
      };
      cells = row-cells shape row.attributes is p.all;
    }
