-- What the records of the table claim: the clusters of the runs that it plans.
use Rattle.std.proofs.Common.{◌≡◌, ◌+◌, ◌==◌, ℕ, suc, Bool, true, false, List, [], ◌∷◌, ◌++◌, map, refl, sym, ap, ◌∙◌, arith, if◌then◌else◌}
use Rattle.std.specs.Prelude.{length}
use Rattle.std.specs.List.{AllByRecursion, flat_map}
use Rattle.ntfs_record.specs.FileRecord.{Attribute, Head, Laid}
use Rattle.ntfs_record.specs.Slots.{map_slots}
use Rattle.ntfs_rules.specs.Clusters.{count_if, times}
use Rattle.ntfs_runs.specs.Cells.{Cells, cells_below}
use Rattle.ntfs_runs.specs.Clusters.{vcns}
use Rattle.ntfs_survey.proofs.OwnedLemmas.{celled}
use Rattle.ntfs_survey.specs.Owned.{attribute_claims, each_attribute}
use Rattle.ntfs_volume.specs.Located.{Located}
use Rattle.ntfs_make.specs.declared.shape.Shape.{Shape}
use Rattle.ntfs_make.specs.declared.table.PlannedRun.{PlannedRun}
use Rattle.ntfs_make.specs.declared.table.PlannedRun.TheVariants.{NoRun, InArea, Holes, BeforeBad, Bad, BehindBad}
use Rattle.ntfs_make.specs.Areas.{area_at}
use Rattle.ntfs_make.specs.Attributes.{attribute_bytes, extent_lowest}
use Rattle.ntfs_make.specs.Extents.{extent_runs, planned_runs, run_of}
use Rattle.ntfs_make.specs.Shape.{bad_cluster}
use Rattle.ntfs_make.specs.Table.{AttributeValue, BodyValue, ZerosBody, BytesBody, ListBody, NameBody, RootBody, ExtentBody, RowValue}
use Rattle.ntfs_made_records.specs.Made.{HasBodyCells, HaveMadeCells, made_attributes, made_face, made_head, made_laid, made_pairs, made_slot}
use Rattle.ntfs_made.proofs.CountLemmas.{hits, hits-front, hits-holes, hits-row, is_within, run_cells, times-append, times-cells}

-- ---- planned runs

-- the sum over planned runs, with what a function gives for each area, and this for the bad cluster
abbrev pub planned_sum : (ℕ → ℕ) → ℕ → PlannedRun → ℕ
planned_sum area bad NoRun = 0
planned_sum area bad (InArea number) = area number
planned_sum area bad (Holes count) = 0
planned_sum area bad BeforeBad = 0
planned_sum area bad Bad = bad
planned_sum area bad BehindBad = 0

abbrev pub all_sum : (ℕ → ℕ) → ℕ → List PlannedRun → ℕ
all_sum area bad [] = 0
all_sum area bad (planned ∷ rest) = planned_sum area bad planned + all_sum area bad rest

sum-append : (area : ℕ → ℕ) (bad : ℕ) (xs ys : List PlannedRun) → all_sum area bad (xs ++ ys) ≡ all_sum area bad xs + all_sum area bad ys
sum-append area bad [] ys = omega arith
sum-append area bad (x ∷ xs) ys = let rest = sum-append area bad xs ys in omega (arith, rest)

-- whether an area, or the bad cluster, is cluster k, as 1 or 0
abbrev pub area_hit : Shape → ℕ → ℕ → ℕ
area_hit shape k number = count_if (is_within (area_at shape number).start (area_at shape number).length k)

abbrev pub bad_hit : Shape → ℕ → ℕ
bad_hit shape k = count_if (is_within (bad_cluster shape.clusters) 1 k)

-- how many of the clusters of planned runs are cluster k
abbrev pub planned_hits : Shape → ℕ → PlannedRun → ℕ
planned_hits shape k planned = planned_sum (area_hit shape k) (bad_hit shape k) planned

abbrev pub all_hits : Shape → ℕ → List PlannedRun → ℕ
all_hits shape k planned = all_sum (area_hit shape k) (bad_hit shape k) planned

run-hits : (shape : Shape) (k : ℕ) (planned : PlannedRun) → hits k (run_cells (run_of shape planned)) ≡ planned_hits shape k planned
unfolding run_of
run-hits shape k NoRun = hits-holes k 0
run-hits shape k (InArea number) = hits-row k (area_at shape number).length (area_at shape number).start
run-hits shape k (Holes count) = hits-holes k count
run-hits shape k BeforeBad = hits-holes k (bad_cluster shape.clusters)
run-hits shape k Bad = hits-row k 1 (bad_cluster shape.clusters)
run-hits shape k BehindBad = hits-holes k _

-- the cells of an extent
extent-hits : (shape : Shape) (k : ℕ) (planned : List PlannedRun) → hits k (vcns (extent_runs shape planned)) ≡ all_hits shape k planned
unfolding extent_runs vcns
extent-hits shape k [] = refl
extent-hits shape k (planned ∷ rest) =
    hits-front k (run_of shape planned) (extent_runs shape rest)
    ∙ ap (λ n. n + hits k (vcns (extent_runs shape rest))) (run-hits shape k planned)
    ∙ ap (λ n. planned_hits shape k planned + n) (extent-hits shape k rest)

-- ---- attributes

-- the runs that are planned for an attribute
abbrev pub body_runs : BodyValue → List PlannedRun
body_runs (ExtentBody extent) = planned_runs extent
body_runs (ZerosBody count) = []
body_runs (BytesBody bytes) = []
body_runs (ListBody entries) = []
body_runs (NameBody file) = []
body_runs (RootBody node) = []

abbrev pub attribute_runs : AttributeValue → List PlannedRun
attribute_runs attribute = body_runs attribute.body

-- an attribute as it is read, with its cells
unfoldable pub made_celled : Shape → ℕ → Head → ℕ → ℕ → AttributeValue → Attribute (Located (Laid (Cells ℕ)))
made_celled shape r h place instance attribute = celled shape.clusters r h (record {
  face = made_face shape instance attribute;
  payload = record { place = place; payload = made_laid shape attribute };
})

body-times : (shape : Shape) (k r : ℕ) (h : Head) (place instance kind : ℕ) (name : List ℕ) (body : BodyValue) → HasBodyCells shape body
    → times k (attribute_claims r (made_celled shape r h place instance (record { kind = kind; name = name; body = body }))) ≡ all_hits shape k (body_runs body)
unfolding attribute_claims made_celled made_face made_laid times
body-times shape k r h place instance kind name (ExtentBody extent) has =
    times-cells k r place (extent_lowest shape extent) (cells_below shape.clusters (made_pairs shape extent)).cells
    ∙ ap (λ (cells : Cells ℕ). hits k cells.cells) has.below ∙ extent-hits shape k (planned_runs extent)
body-times shape k r h place instance kind name (ZerosBody count) has = refl
body-times shape k r h place instance kind name (BytesBody bytes) has = refl
body-times shape k r h place instance kind name (ListBody entries) has = refl
body-times shape k r h place instance kind name (NameBody file) has = refl
body-times shape k r h place instance kind name (RootBody node) has = refl

-- ---- records

attributes-times : (shape : Shape) (k r : ℕ) (h : Head) (place instance : ℕ) (attributes : List AttributeValue) → AllByRecursion (λ attribute. HasBodyCells shape attribute.body) attributes
    → times k (flat_map (attribute_claims r) (map (celled shape.clusters r h) (made_attributes shape place instance attributes))) ≡ all_hits shape k (flat_map attribute_runs attributes)
unfolding made_celled times
attributes-times shape k r h place instance [] have = refl
attributes-times shape k r h place instance (attribute ∷ attributes) have =
    let next = place + length (attribute_bytes shape instance attribute) in
    let rest = map (celled shape.clusters r h) (made_attributes shape next (instance + 1) attributes) in
    times-append k (attribute_claims r (made_celled shape r h place instance attribute)) (flat_map (attribute_claims r) rest)
    ∙ ap (λ n. n + times k (flat_map (attribute_claims r) rest)) (body-times shape k r h place instance attribute.kind attribute.name attribute.body have.0)
    ∙ ap (λ n. all_hits shape k (attribute_runs attribute) + n) (attributes-times shape k r h next (instance + 1) attributes have.1)
    ∙ sym (sum-append (area_hit shape k) (bad_hit shape k) (attribute_runs attribute) (flat_map attribute_runs attributes))

-- the runs that are planned for a record; one that isn't in use has none
abbrev pub row_runs : RowValue → List PlannedRun
row_runs row = if row.flags == 0 then [] else flat_map attribute_runs row.attributes

slot-times : (shape : Shape) (k r : ℕ) (row : RowValue) (t : Bool) → row.flags == 0 ≡ t → HaveMadeCells shape row
    → times k (flat_map (attribute_claims r) (map (celled shape.clusters r (made_slot shape row).head) (made_slot shape row).attributes))
    ≡ all_hits shape k (if t then [] else flat_map attribute_runs row.attributes)
unfolding made_slot times
slot-times shape k r row true is have = rw is refl
slot-times shape k r row false is have = rw is (attributes-times shape k r (made_head row) 0x38 0 row.attributes have)

-- the extents of all rows have their cells
abbrev pub AllHaveCells : Shape → List RowValue → Type 0
AllHaveCells shape some = AllByRecursion (HaveMadeCells shape) some

pub rows-times : (shape : Shape) (k r : ℕ) (some : List RowValue) → AllHaveCells shape some
    → times k (each_attribute attribute_claims r (map_slots (celled shape.clusters) r (map (made_slot shape) some))) ≡ all_hits shape k (flat_map row_runs some)
unfolding each_attribute times
rows-times shape k r [] have = refl
rows-times shape k r (row ∷ some) have =
    let rest = each_attribute attribute_claims (suc r) (map_slots (celled shape.clusters) (suc r) (map (made_slot shape) some)) in
    let here = flat_map (attribute_claims r) (map (celled shape.clusters r (made_slot shape row).head) (made_slot shape row).attributes) in
    times-append k here rest
    ∙ ap (λ n. n + times k rest) (slot-times shape k r row (row.flags == 0) refl have.0)
    ∙ ap (λ n. all_hits shape k (row_runs row) + n) (rows-times shape k (suc r) some have.1)
    ∙ sym (sum-append (area_hit shape k) (bad_hit shape k) (row_runs row) (flat_map row_runs some))
