-- Blocks whose array of fixups is good.
use Rattle.std.proofs.Common.{◌≡◌, ◌≤◌, ◌%◌, ℕ, List, length, refl, IsTrue, arith, length-append}
use Rattle.std.proofs.lemmas.List.{length-take, length-replicate}
use Rattle.ntfs_fixup.specs.Fixups.{HasWholeStrides, has_good_array, array_count, array_offset, least_offset}
use Rattle.ntfs_fixup.specs.declared.header.Magic.TheVariants.{Indx}
use Rattle.ntfs_base.specs.Bytes.{number_at}
use Rattle.ntfs_make.specs.declared.shape.Shape.{Shape}
use Rattle.ntfs_make.specs.Table.{RowValue}
use Rattle.ntfs_make.specs.Fields.{with_length, zero_bytes, fields_bytes}
use Rattle.ntfs_make.specs.Records.{record_text, header_bytes}
use Rattle.ntfs_make.specs.Index.{index_text}

pub length-sized : (size : ℕ) (bytes : List ℕ) → length (with_length size bytes) ≡ size
unfolding with_length zero_bytes
length-sized size bytes = simp (length-append, length-take, length-replicate) (omega arith)

pub whole-sized : (size : ℕ) (bytes : List ℕ) → size % 512 ≡ 0 → 1024 ≤ size → size ≤ 65536 → HasWholeStrides (with_length size bytes)
whole-sized size bytes whole least most =
    let long = length-sized size bytes in
    record { whole = rw long whole; least = rw long least; most = rw long most }

record-offset : (shape : Shape) (row : RowValue) → array_offset (with_length 1024 (record_text shape row)) ≡ 0x30
unfolding array_offset number_at with_length record_text header_bytes fields_bytes
record-offset shape row = refl

record-count : (shape : Shape) (row : RowValue) → array_count (with_length 1024 (record_text shape row)) ≡ 3
unfolding array_count number_at with_length record_text header_bytes fields_bytes
record-count shape row = refl

index-offset : array_offset (with_length 4096 index_text) ≡ 0x28
unfolding array_offset number_at with_length index_text fields_bytes
index-offset = refl

index-count : array_count (with_length 4096 index_text) ≡ 9
unfolding array_count number_at with_length index_text fields_bytes
index-count = refl

pub record-array : (shape : Shape) (row : RowValue) → IsTrue (has_good_array Indx (with_length 1024 (record_text shape row)))
unfolding has_good_array least_offset
record-array shape row =
    let long = length-sized 1024 (record_text shape row) in
    let offset = record-offset shape row in
    let count = record-count shape row in
    rw (long, offset, count) refl

pub index-array : IsTrue (has_good_array Indx (with_length 4096 index_text))
unfolding has_good_array least_offset
index-array =
    let long = length-sized 4096 index_text in
    rw (long, index-offset, index-count) refl
