-- The records of a made volume are those of the table, and keep the rules.
use Rattle.std.proofs.Common.{◌≡◌, ◌+◌, ◌/◌, ◌-◌, ◌==◌, ◌&&◌, ℕ, suc, Bool, true, false, List, [], ◌∷◌, map, Some, None, Ok, refl, sym, ap, ◌∙◌, arith, eq-eqb, if◌then◌else◌}
use Rattle.std.specs.Prelude.{slice_get, length}
use Rattle.std.specs.List.{AllByRecursion, list_all}
use Rattle.ntfs_record.specs.FileRecord.{Head, Laid}
use Rattle.ntfs_record.specs.Slots.{Slot, first_not, map_slots}
use Rattle.ntfs_rules.proofs.DataLemmas.{c4-is, c7-is}
use Rattle.ntfs_rules.specs.Records.{c4, c7}
use Rattle.ntfs_rules.specs.VolumeData.{numbers}
use Rattle.ntfs_runs.specs.Cells.{Cells}
use Rattle.ntfs_survey.proofs.OwnedLemmas.{celled}
use Rattle.ntfs_survey.specs.Owned.{has_cells, have_cells, is_whole, owners_of, survey_of, volume_survey}
use Rattle.ntfs_volume.specs.Located.{Located, located_slot, slots_from, slots_of, with_cells}
use Rattle.ntfs_volume.specs.Records.{raw_record}
use Rattle.ntfs_make.specs.declared.shape.Shape.{Shape}
use Rattle.ntfs_make.specs.Attributes.{attribute_bytes, extent_lowest, extent_next}
use Rattle.ntfs_make.specs.Records.{record_of_row}
use Rattle.ntfs_make.specs.Rows.{rows}
use Rattle.ntfs_make.specs.Table.{AttributeValue, BodyValue, ZerosBody, BytesBody, ListBody, NameBody, RootBody, ExtentBody, RowValue}
use Rattle.ntfs_make.proofs.RowLemmas.{length-rows}
use Rattle.ntfs_made_map.specs.Opened.{made_geometry, made_map, made_opened}
use Rattle.ntfs_made_records.specs.Made.{HasBodyCells, HaveMadeCells, made_attributes, made_face, made_head, made_laid, made_slot}
use Rattle.ntfs_made.specs.Data.{made_cluster, made_data, made_slots}
use Rattle.ntfs_made.proofs.ClaimLemmas.{AllHaveCells, made_celled}

-- ---- the records

slots-rows : (shape : Shape) (slot : ℕ → Slot (Located (Laid (List ℕ)))) (n : ℕ) (some : List RowValue) → ((i : ℕ) (row : RowValue) → slice_get some i ≡ Some row → slot (n + i) ≡ made_slot shape row)
    → slots_from slot n (length some) ≡ map (made_slot shape) some
unfolding slots_from
slots-rows shape slot n [] read = refl
slots-rows shape slot n (row ∷ some) read =
    let here : slot n ≡ made_slot shape row = ap slot (let e : n ≡ n + 0 = omega arith in e) ∙ read 0 row refl in
    ap (λ (s : Slot _). s ∷ slots_from slot (suc n) (length some)) here
    ∙ ap (λ rest. made_slot shape row ∷ rest) (slots-rows shape slot (suc n) some (λ i next there. ap slot (let e : suc n + i ≡ n + suc i = omega arith in e) ∙ read (suc i) next there))

-- each record of $MFT is that of its row
abbrev pub ReadsRows : Shape → Type 0
ReadsRows shape =
    (r : ℕ) (row : RowValue) → slice_get rows r ≡ Some row → raw_record (made_geometry shape) (made_map shape) (made_cluster shape) r ≡ Some (record_of_row shape row)

-- and says what the table puts into it
abbrev pub SaysRows : Shape → Type 0
SaysRows shape = (r : ℕ) (row : RowValue) → slice_get rows r ≡ Some row → located_slot r (Some (record_of_row shape row)) ≡ made_slot shape row

slots-made : (shape : Shape) → ReadsRows shape → SaysRows shape → (made_map shape).valid / (made_geometry shape).record_size ≡ 64
    → slots_of (made_geometry shape) (made_map shape) (made_cluster shape) ≡ made_slots shape
unfolding slots_of
slots-made shape reads says count =
    let slot : ℕ → Slot (Located (Laid (List ℕ))) = λ n. located_slot n (raw_record (made_geometry shape) (made_map shape) (made_cluster shape) n) in
    ap (slots_from slot 0) (count ∙ sym length-rows)
    ∙ slots-rows shape slot 0 rows (λ i row there. ap slot (let e : 0 + i ≡ i = omega arith in e) ∙ ap (located_slot i) (reads i row there) ∙ says i row there)

-- ---- the rules

whole-slot : (shape : Shape) (row : RowValue) (t : Bool) → row.flags == 0 ≡ t → is_whole (made_slot shape row) ≡ true
unfolding made_slot
whole-slot shape row true is = rw is refl
whole-slot shape row false is = rw is refl

whole-rows : (shape : Shape) (r : ℕ) (some : List RowValue) → first_not (λ n s. is_whole s) r (map (made_slot shape) some) ≡ None
whole-rows shape r [] = refl
whole-rows shape r (row ∷ some) =
    ap (λ t. if t then first_not (λ n (s : Slot (Located (Laid (List ℕ)))). is_whole s) (suc r) (map (made_slot shape) some) else Some r) (whole-slot shape row (row.flags == 0) refl) ∙ whole-rows shape (suc r) some

body-cells : (shape : Shape) (r : ℕ) (h : Head) (place instance kind : ℕ) (name : List ℕ) (body : BodyValue) → HasBodyCells shape body
    → has_cells (made_celled shape r h place instance (record { kind = kind; name = name; body = body })) ≡ true
unfolding made_celled made_face made_laid
body-cells shape r h place instance kind name (ExtentBody extent) has =
    ap (λ (cells : Cells ℕ). cells.is_right && (length cells.cells == extent_next shape extent - extent_lowest shape extent)) has.below
    ∙ eq-eqb _ _ has.count
body-cells shape r h place instance kind name (ZerosBody count) has = refl
body-cells shape r h place instance kind name (BytesBody bytes) has = refl
body-cells shape r h place instance kind name (ListBody entries) has = refl
body-cells shape r h place instance kind name (NameBody file) has = refl
body-cells shape r h place instance kind name (RootBody node) has = refl

attributes-cells : (shape : Shape) (r : ℕ) (h : Head) (place instance : ℕ) (attributes : List AttributeValue) → AllByRecursion (λ attribute. HasBodyCells shape attribute.body) attributes
    → list_all has_cells (map (celled shape.clusters r h) (made_attributes shape place instance attributes)) ≡ true
unfolding made_celled
attributes-cells shape r h place instance [] have = refl
attributes-cells shape r h place instance (attribute ∷ attributes) have =
    let next = place + length (attribute_bytes shape instance attribute) in
    ap (λ t. t && list_all has_cells (map (celled shape.clusters r h) (made_attributes shape next (instance + 1) attributes)))
    (body-cells shape r h place instance attribute.kind attribute.name attribute.body have.0)
    ∙ attributes-cells shape r h next (instance + 1) attributes have.1

slot-cells : (shape : Shape) (r : ℕ) (row : RowValue) (t : Bool) → row.flags == 0 ≡ t → HaveMadeCells shape row
    → list_all has_cells (map (celled shape.clusters r (made_slot shape row).head) (made_slot shape row).attributes) ≡ true
unfolding made_slot
slot-cells shape r row true is have = rw is refl
slot-cells shape r row false is have = rw is (attributes-cells shape r (made_head row) 0x38 0 row.attributes have)

rows-cells : (shape : Shape) (r : ℕ) (some : List RowValue) → AllHaveCells shape some
    → first_not (λ n s. have_cells s) r (map_slots (celled shape.clusters) r (map (made_slot shape) some)) ≡ None
rows-cells shape r [] have = refl
rows-cells shape r (row ∷ some) have =
    ap (λ t. if t then first_not (λ n (s : Slot (Located (Laid (Cells ℕ)))). have_cells s) (suc r) (map_slots (celled shape.clusters) (suc r) (map (made_slot shape) some)) else Some r)
    (slot-cells shape r row (row.flags == 0) refl have.0)
    ∙ rows-cells shape (suc r) some have.1

all-rows : (P : RowValue → Type 0) (some : List RowValue) → ((i : ℕ) (row : RowValue) → slice_get some i ≡ Some row → P row) → AllByRecursion P some
all-rows P [] each = tt
all-rows P (row ∷ some) each = (each 0 row refl, all-rows P some (λ i next there. each (suc i) next there))

-- ---- the volume

-- its records are those of the table, with the cells of their extents
pub record IsRead (shape : Shape) : Type 0 where
  pub slots : slots_of (made_geometry shape) (made_map shape) (made_cluster shape) ≡ made_slots shape
  pub cells : AllHaveCells shape rows

-- the extents of each row have their cells
abbrev pub HaveCells : Shape → Type 0
HaveCells shape = (r : ℕ) (row : RowValue) → slice_get rows r ≡ Some row → HaveMadeCells shape row

pub is-read : (shape : Shape) → ReadsRows shape → (made_map shape).valid / (made_geometry shape).record_size ≡ 64 → SaysRows shape → HaveCells shape → IsRead shape
is-read shape reads count says cells = record {
  slots = slots-made shape reads says count;
  cells = all-rows (HaveMadeCells shape) rows cells;
}

pub made-sound : (shape : Shape) → IsRead shape → c4 (made_data shape).slots ≡ None
unfolding made_opened c4
made-sound shape is =
    c4-is (made_opened shape) (made_cluster shape)
    ∙ ap (λ (slots : List (Slot (Located (Laid (List ℕ))))). first_not (λ n s. is_whole s) 0 slots) is.slots
    ∙ whole-rows shape 0 rows

celled-rows : (shape : Shape) → IsRead shape → first_not (λ n s. have_cells s) 0 (with_cells shape.clusters (slots_of (made_geometry shape) (made_map shape) (made_cluster shape))) ≡ None
unfolding with_cells
celled-rows shape is =
    ap (λ (slots : List (Slot (Located (Laid (List ℕ))))). first_not (λ n (s : Slot (Located (Laid (Cells ℕ)))). have_cells s) 0 (map_slots (celled shape.clusters) 0 slots)) is.slots
    ∙ rows-cells shape 0 rows is.cells

pub made-cells : (shape : Shape) → IsRead shape → c7 (numbers (made_data shape)) ≡ None
unfolding made_opened made_geometry
made-cells shape is = c7-is (made_opened shape) (made_cluster shape) ∙ celled-rows shape is

survey-rows : (n : ℕ) (slots : List (Slot (Located (Laid (List ℕ))))) → first_not (λ r s. is_whole s) 0 slots ≡ None → first_not (λ r s. have_cells s) 0 (with_cells n slots) ≡ None
    → survey_of n slots ≡ Ok (owners_of slots)
unfolding survey_of
survey-rows n slots sound cells = rw (sound, cells) refl

pub made-survey : (shape : Shape) → IsRead shape → volume_survey (made_opened shape) (made_cluster shape) ≡ Ok (owners_of (made_slots shape))
unfolding made_opened made_geometry with_cells
made-survey shape is =
    ap (λ (slots : List (Slot (Located (Laid (List ℕ))))). survey_of shape.clusters slots) is.slots
    ∙ survey-rows shape.clusters (made_slots shape) (whole-rows shape 0 rows) (rows-cells shape 0 rows is.cells)
