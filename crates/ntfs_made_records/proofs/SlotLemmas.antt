-- A generated record as the record of its number.
use Rattle.std.proofs.Common.{◌≡◌, ◌≤◌, ◌%◌, ◌==◌, ℕ, List, length, take, Bool, true, false, codes, Some, cond, refl, sym, ap, ◌∙◌, arith}
use Rattle.std.proofs.lemmas.List.{ext_get_or, get_or-take, length-replicate, length-take-le}
use Rattle.std.proofs.lemmas.Bool.Decides.{Decides-eqb, nat_tests}
use Rattle.std.proofs.lemmas.Slice.Eq.{slice_eq-Decides}
use Rattle.ntfs_fixup.specs.declared.header.Magic.TheVariants.{File}
use Rattle.ntfs_fixup.specs.Fixups.{KeepsFront, array_offset, refix_of}
use Rattle.ntfs_fixup.proofs.FixupLemmas.{number-kept}
use Rattle.ntfs_fixup.proofs.LawLemmas.{KeepsFront-refix_of, has_good_array-any}
use Rattle.ntfs_fixup.proofs.RefixLemmas.{length-refix_of}
use Rattle.ntfs_record.specs.FileRecord.{Attribute, Laid}
use Rattle.ntfs_record.specs.Layout.{flags_of}
use Rattle.ntfs_record.specs.Header.{begins_file}
use Rattle.ntfs_record.specs.Slots.{Slot, begins_baad, is_in_use, record_in, tells_own}
use Rattle.ntfs_volume.specs.Located.{Located, idle, live_located, located_slot, sound_located}
use Rattle.ntfs_volume.specs.MftMap.{live_record}
use Rattle.ntfs_make.specs.declared.shape.Shape.{Shape}
use Rattle.ntfs_make.specs.Fields.{zero_bytes}
use Rattle.ntfs_make.specs.Records.{record_of_row, record_text}
use Rattle.ntfs_make.specs.Table.{RowValue}
use Rattle.ntfs_make.proofs.BlockLemmas.{length-sized}
use Rattle.ntfs_made_records.specs.Made.{made_attributes, made_head, made_record, made_slot}
use Rattle.ntfs_made_records.proofs.BlockLemmas.{block-front, block-header, block-magic, block_of_row}
use Rattle.ntfs_made_records.proofs.RecordLemmas.{IsSmallRow, made-located, record-read}

-- ---- in use

-- the first four bytes stay
take-kept : (bytes others : List ℕ) → KeepsFront bytes others → length bytes ≡ 1024 → 4 ≤ array_offset bytes
    → take 4 others ≡ take 4 bytes
take-kept bytes others kept long before =
    let short = length-take-le 4 bytes (omega arith) in
    let other_short = length-take-le 4 others (omega (arith, kept.long)) in
    ext_get_or 0 (take 4 others) (take 4 bytes) (other_short ∙ sym short)
    (λ i l. get_or-take 4 others i 0 (omega arith) ∙ kept.front i (omega arith)
    ∙ sym (get_or-take 4 bytes i 0 (omega arith)))

file-from : (bytes : List ℕ) → take 4 bytes ≡ codes "FILE" → begins_file bytes ≡ true
unfolding begins_file
file-from bytes is = (slice_eq-Decides Decides-eqb (codes "FILE") (take 4 bytes) (begins_file bytes) refl).1 (sym is)

pub in-use : (shape : Shape) (row : RowValue) → IsSmallRow shape row → row.flags % 2 ≡ 1
    → is_in_use (refix_of (block_of_row shape row)) ≡ true
unfolding is_in_use
in-use shape row small odd =
    let block = block_of_row shape row in
    let h = block-header shape row small.small in
    let front = block-front shape row small.small in
    let array = has_good_array-any File (block_of_row shape row) front.array in
    let kept = KeepsFront-refix_of (block_of_row shape row) array in
    let long = length-sized 1024 (record_text shape row) in
    let magic = take-kept block (refix_of block) kept long (omega (arith, h.array_offset)) ∙ block-magic shape row in
    let begins = file-from (refix_of block) magic in
    let flags : flags_of (refix_of (block_of_row shape row)) ≡ row.flags
    = number-kept 2 0x16 block (refix_of block) kept (omega (arith, h.array_offset)) ∙ h.flags in
    rw (begins, flags, odd) refl

-- ---- one that isn't

zeros-idle : is_in_use (zero_bytes 1024) ≡ false
unfolding is_in_use begins_file zero_bytes
zeros-idle = refl

zeros-whole : begins_baad (zero_bytes 1024) ≡ false
unfolding begins_baad zero_bytes
zeros-whole = refl

-- ---- the record of a number

own : (r n : ℕ) → n ≡ r → tells_own r (Some n) ≡ true
own r n same = grind (arith, nat_tests)

own-slot : (shape : Shape) (row : RowValue) (r : ℕ) → row.number ≡ r
    → live_located r (Some (made_record shape row)) ≡ sound_located (made_record shape row)
unfolding made_record
own-slot shape row r number = let test = own r row.number number in rw test refl

pub live-made : (shape : Shape) (row : RowValue) → IsSmallRow shape row → row.flags % 2 ≡ 1
    → (row.flags == 0) ≡ false → live_record (record_of_row shape row) ≡ Some (made_record shape row)
unfolding live_record record_of_row
live-made shape row small odd used =
    let live = in-use shape row small odd in
    let read = record-read shape row small in
    rw (used, live) read

live-slot : (shape : Shape) (row : RowValue) (r : ℕ) → IsSmallRow shape row → row.flags % 2 ≡ 1 → row.number ≡ r
    → located_slot r (Some (refix_of (block_of_row shape row))) ≡ sound_located (made_record shape row)
unfolding located_slot
live-slot shape row r small odd number =
    let raw = refix_of (block_of_row shape row) in
    let live = in-use shape row small odd in
    let read = record-read shape row small in
    ap (λ t. cond t (live_located r (record_in raw)) (idle (begins_baad raw))) live
    ∙ ap (live_located r) read ∙ own-slot shape row r number

-- a row's record in use with these attributes
abbrev slot_with : RowValue → List (Attribute (Located (Laid (List ℕ)))) → Slot (Located (Laid (List ℕ)))
slot_with row attributes =
    record { is_live = true; is_sound = true; is_baad = false; head = made_head row; attributes = attributes }

sound-made : (shape : Shape) (row : RowValue) → IsSmallRow shape row
    → sound_located (made_record shape row) ≡ slot_with row (made_attributes shape 0x38 0 row.attributes)
unfolding made_record
sound-made shape row small = ap (slot_with row) (made-located shape row small.all)

slot-by : (shape : Shape) (row : RowValue) (r : ℕ) → IsSmallRow shape row
    → ((row.flags == 0) ≡ false → row.flags % 2 ≡ 1) → row.number ≡ r → (t : Bool) → (row.flags == 0) ≡ t
    → located_slot r (Some (cond t (zero_bytes 1024) (refix_of (block_of_row shape row))))
    ≡ cond t (idle false) (slot_with row (made_attributes shape 0x38 0 row.attributes))
unfolding located_slot
slot-by shape row r small odd number true is = rw (zeros-idle, zeros-whole) refl
slot-by shape row r small odd number false is =
    live-slot shape row r small (odd is) number ∙ sound-made shape row small

pub slot-made : (shape : Shape) (row : RowValue) (r : ℕ) → IsSmallRow shape row
    → ((row.flags == 0) ≡ false → row.flags % 2 ≡ 1) → row.number ≡ r
    → located_slot r (Some (record_of_row shape row)) ≡ made_slot shape row
unfolding record_of_row made_slot
slot-made shape row r small odd number = slot-by shape row r small odd number (row.flags == 0) refl

length-zeros : (count : ℕ) → length (zero_bytes count) ≡ count
unfolding zero_bytes
length-zeros count = length-replicate count 0

pub length-record : (shape : Shape) (row : RowValue) → length (record_of_row shape row) ≡ 1024
unfolding record_of_row
length-record shape row = of (row.flags == 0)
  where
    of : (t : Bool) → length (cond t (zero_bytes 1024) (refix_of (block_of_row shape row))) ≡ 1024
    of true = length-zeros 1024
    of false = length-refix_of (block_of_row shape row) ∙ length-sized 1024 (record_text shape row)
