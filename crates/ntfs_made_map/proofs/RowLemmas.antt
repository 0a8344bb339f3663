-- The records of $MFT itself: record 0, and record 28 with the extent behind the first.
use Rattle.std.proofs.Common.{◌≡◌, ◌==◌, ℕ, true, false, List, [], ◌∷◌, map, refl}
use Rattle.std.specs.Prelude.{Some, None, codes, find, slice_get}
use Rattle.std.proofs.lemmas.Bool.{eq-eqb}
use Rattle.ntfs_record.specs.FileRecord.{Attribute, Laid, attributes_of}
use Rattle.ntfs_volume.specs.Located.{unlocated}
use Rattle.ntfs_volume.specs.MftMap.{begins_table, is_named, live_record}
use Rattle.ntfs_volume.specs.References.{has_base, matches}
use Rattle.ntfs_make.specs.declared.shape.Shape.{Shape}
use Rattle.ntfs_make.specs.declared.table.Extent.{Extent}
use Rattle.ntfs_make.specs.declared.table.ListEntry.{ListEntry}
use Rattle.ntfs_make.specs.declared.table.LowestVcn.TheVariants.{Zero, Behind}
use Rattle.ntfs_make.specs.declared.table.PlannedRun.TheVariants.{NoRun, InArea}
use Rattle.ntfs_make.specs.declared.table.Size.TheVariants.{Exact}
use Rattle.ntfs_make.specs.Areas.{area_at}
use Rattle.ntfs_make.specs.Extents.{run_of}
use Rattle.ntfs_make.specs.Fields.{utf16_bytes}
use Rattle.ntfs_make.specs.Records.{record_of_row}
use Rattle.ntfs_make.specs.Rows.{kind_rows, rows, system_rows}
use Rattle.ntfs_make.specs.Shape.{IsShape}
use Rattle.ntfs_make.specs.Table.{AttributeValue, RowValue, extent_attribute, list_attribute, list_entry, name_attribute, one_run, row_with, standard_attribute, value_attribute}
use Rattle.ntfs_made_records.specs.Made.{HaveMadeCells, made_attributes, made_face, made_head, made_laid, made_record}
use Rattle.ntfs_made_records.proofs.RecordLemmas.{made-attributes}
use Rattle.ntfs_made_records.proofs.SlotLemmas.{live-made}
use Rattle.ntfs_made_records.proofs.TableLemmas.{table-row}
use Rattle.ntfs_made_map.proofs.ListLemmas.{made_entry}

-- ---- the rows

-- the first VCNs of $MFT
abbrev pub first_extent : Extent
first_extent = one_run NoRun (InArea 1) (InArea 7) (Exact 65536)

-- those behind them
abbrev pub next_extent : Extent
next_extent = one_run (InArea 1) (InArea 7) NoRun (Exact 0)

-- the list of record 0
abbrev pub table_list : List ListEntry
table_list =
    list_entry 0x10 Zero 0 0 ∷ list_entry 0x30 Zero 0 2 ∷ list_entry 0x80 Zero 0 3
    ∷ list_entry 0x80 (Behind 1) 28 0 ∷ list_entry 0xB0 Zero 0 4 ∷ []

abbrev pub table_row : RowValue
table_row =
    row_with 0 1 None
    (standard_attribute
    ∷ list_attribute table_list
    ∷ name_attribute 5 3 (codes "$MFT")
    ∷ extent_attribute 0x80 [] first_extent
    ∷ value_attribute 0xB0 [] (0xFF ∷ 0x0F ∷ 0xFF ∷ 0x1F ∷ 0xFF ∷ 0xFF ∷ 0 ∷ 0 ∷ [])
    ∷ [])

abbrev pub next_row : RowValue
next_row = row_with 28 1 (Some 0) (extent_attribute 0x80 [] next_extent ∷ [])

pub table-there : slice_get rows 0 ≡ Some table_row
unfolding system_rows
table-there = refl

pub next-there : slice_get rows 28 ≡ Some next_row
unfolding system_rows kind_rows
next-there = refl

-- ---- what is read of them

-- what is read of a row's record
pub record IsReadRow (shape : Shape) (one : RowValue) : Type 0 where
  pub recorded : live_record (record_of_row shape one) ≡ Some (made_record shape one)
  pub attributes : attributes_of (made_record shape one) ≡ map unlocated (made_attributes shape 0x38 0 one.attributes)
  pub cells : HaveMadeCells shape one

read-row : (shape : Shape) (r : ℕ) (one : RowValue) → IsShape shape → slice_get rows r ≡ Some one
    → one.flags == 0 ≡ false → IsReadRow shape one
read-row shape r one is there used =
    let in_table = table-row shape r one is there in record {
      recorded = live-made shape one in_table.small (in_table.odd used) used;
      attributes = made-attributes shape one in_table.small.all;
      cells = in_table.cells;
    }

pub table-read : (shape : Shape) → IsShape shape → IsReadRow shape table_row
table-read shape is = read-row shape 0 table_row is table-there refl

pub next-read : (shape : Shape) → IsShape shape → IsReadRow shape next_row
next-read shape is = read-row shape 28 next_row is next-there refl

pub head-made : (shape : Shape) (one : RowValue) → (made_record shape one).head ≡ made_head one
unfolding made_record
head-made shape one = refl

-- an attribute of the table as it is read
abbrev pub read_attribute : Shape → ℕ → AttributeValue → Attribute (Laid (List ℕ))
read_attribute shape instance attribute =
    record { face = made_face shape instance attribute; payload = made_laid shape attribute }

-- the attributes of a row as they are read
abbrev pub read_attributes : Shape → RowValue → List (Attribute (Laid (List ℕ)))
read_attributes shape one = map unlocated (made_attributes shape 0x38 0 one.attributes)

-- the map begins with the first extent
pub first-found : (shape : Shape) → find (λ (a : Attribute _). begins_table a.face) (read_attributes shape table_row)
    ≡ Some (read_attribute shape 3 (extent_attribute 0x80 [] first_extent))
unfolding made_face utf16_bytes run_of
first-found shape = refl

-- the entry of the extent behind the first names that extent
pub next-found : (shape : Shape)
    → find (λ (a : Attribute _). is_named (made_entry shape (list_entry 0x80 (Behind 1) 28 0)) a.face)
    (read_attributes shape next_row) ≡ Some (read_attribute shape 0 (extent_attribute 0x80 [] next_extent))
unfolding made_face utf16_bytes run_of
next-found shape = rw (eq-eqb (area_at shape 1).length (area_at shape 1).length refl) refl

pub next-base : has_base (made_head next_row).base 0 (made_head table_row).sequence ≡ true
unfolding has_base matches
next-base = refl
