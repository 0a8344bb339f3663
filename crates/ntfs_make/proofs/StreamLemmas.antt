-- How many bytes records and streams have, and parts of streams.
use Rattle.std.proofs.Common.{◌≡◌, ◌+◌, ◌*◌, ◌%◌, ◌==◌, ℕ, zero, suc, Bool, true, false, cond, List, [], ◌∷◌, length, refl, ◌∙◌, arith, length-append}
use Rattle.std.specs.Prelude.{flat_map}
use Rattle.std.specs.List.{range_with_len}
use Rattle.std.proofs.lemmas.List.{length-replicate}
use Rattle.std.proofs.lemmas.List.FromFn.{length-map-range_with_len}
use Rattle.ntfs_fixup.specs.Fixups.{refix_of, refix_byte}
use Rattle.ntfs_make.specs.declared.shape.Shape.{Shape}
use Rattle.ntfs_make.specs.Fields.{zero_bytes, with_length, fields_bytes}
use Rattle.ntfs_make.specs.Table.{RowValue}
use Rattle.ntfs_make.specs.Index.{index_block, index_text}
use Rattle.ntfs_make.specs.Records.{record_of_row, record_text, records_bytes}
use Rattle.ntfs_make.specs.UpCase.{up_case_bytes}
use Rattle.ntfs_make.specs.Streams.{ff_bytes, counting_bytes, bitmap_bytes, byte_of}
use Rattle.ntfs_make.specs.Boot.{boot_sector, boot_front}
use Rattle.ntfs_make.proofs.BlockLemmas.{length-sized}

length-refix_of : (block : List ℕ) → length (refix_of block) ≡ length block
unfolding refix_of
length-refix_of block = length-map-range_with_len (refix_byte block) 0 (length block)

pub length-zeros : (n : ℕ) → length (zero_bytes n) ≡ n
unfolding zero_bytes
length-zeros n = length-replicate n 0

record-of : (t : Bool) (text : List ℕ) → length (cond t (zero_bytes 1024) (refix_of (with_length 1024 text))) ≡ 1024
record-of true text = length-zeros 1024
record-of false text = length-refix_of (with_length 1024 text) ∙ length-sized 1024 text

pub length-record : (shape : Shape) (row : RowValue) → length (record_of_row shape row) ≡ 1024
unfolding record_of_row
length-record shape row = record-of (row.flags == 0) (record_text shape row)

pub length-records : (shape : Shape) (rows : List RowValue) → length (records_bytes shape rows) ≡ length rows * 1024
length-records shape [] = refl
length-records shape (row ∷ rows) =
    let first = length-record shape row in
    let rest = length-records shape rows in
    let both = length-append (record_of_row shape row) (records_bytes shape rows) in
    omega arith

pub length-boot : (shape : Shape) → length (boot_sector shape) ≡ 512
unfolding boot_sector boot_front fields_bytes zero_bytes
length-boot shape = refl

pub length-index : length index_block ≡ 4096
unfolding index_block
length-index = length-refix_of (with_length 4096 index_text) ∙ length-sized 4096 index_text

pub length-ff : (n : ℕ) → length (ff_bytes n) ≡ n
unfolding ff_bytes
length-ff n = length-replicate n 0xFF

pub length-counting : (first n : ℕ) → length (counting_bytes first n) ≡ n
unfolding counting_bytes
length-counting first n = length-map-range_with_len (λ place. (first + place) % 256) 0 n

pub length-bitmap : (shape : Shape) (n : ℕ) → length (bitmap_bytes shape n) ≡ n
unfolding bitmap_bytes
length-bitmap shape n = length-map-range_with_len (λ place. byte_of shape (8 * place)) 0 n

length-pairs : (f g : ℕ → ℕ) (a n : ℕ) → length (flat_map (λ unit. f unit ∷ g unit ∷ []) (range_with_len a n)) ≡ 2 * n
length-pairs f g a zero = refl
length-pairs f g a (suc n) = let rest = length-pairs f g (a + 1) n in omega arith

pub length-up_case : (n : ℕ) → length (up_case_bytes n) ≡ 2 * n
unfolding up_case_bytes
length-up_case n = length-pairs _ _ 0 n
