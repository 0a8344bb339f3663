-- The bytes of a generated record before its fixups, and what is read of its header also behind them.
use Rattle.std.proofs.Common.{◌≡◌, ◌≤◌, ◌+◌, ◌-◌, ℕ, List, ◌++◌, length, take, drop, true, codes, refl, sym, ap, ◌∙◌, subst, append_assoc, arith, inl, inr}
use Rattle.std.proofs.lemmas.List.{ext_get_or, get_or-drop, get_or-take, length-append, length-drop, length-take-le}
use Rattle.ntfs_base.specs.Bytes.{number_at}
use Rattle.ntfs_fixup.specs.declared.header.Magic.TheVariants.{File}
use Rattle.ntfs_fixup.specs.Fixups.{HasFront, HasWholeStrides, SameOutsideArray, array_count, array_offset, has_good_array, has_magic, least_offset, magic_number}
use Rattle.ntfs_fixup.proofs.FixupLemmas.{count_number, number_at-same, offset_number}
use Rattle.ntfs_record.specs.Layout.{kind_at}
use Rattle.ntfs_record.specs.Attribute.{end_kind}
use Rattle.ntfs_make.specs.declared.shape.Shape.{Shape}
use Rattle.ntfs_make.specs.Attributes.{attributes_bytes}
use Rattle.ntfs_make.specs.Fields.{fields_bytes, with_length, zero_bytes}
use Rattle.ntfs_make.specs.ReadBack.{FitsHeader, IsHeaderOf}
use Rattle.ntfs_make.specs.Records.{end_mark, header_bytes, record_text}
use Rattle.ntfs_make.specs.Table.{RowValue}
use Rattle.ntfs_make.proofs.BlockLemmas.{length-sized, whole-sized}
use Rattle.ntfs_make.proofs.ReadBackLemmas.{header-read}
use Rattle.ntfs_make.proofs.RowLemmas.{take-all}

-- the bytes of a row's attributes
abbrev pub size_of_row : Shape → RowValue → ℕ
size_of_row shape row = length (attributes_bytes shape 0 row.attributes)

-- the bytes of a row's record before its fixups
abbrev pub block_of_row : Shape → RowValue → List ℕ
block_of_row shape row = with_length 1024 (record_text shape row)

-- the row has room in a record, and its numbers fit the header
pub record HasSmallRow (shape : Shape) (row : RowValue) : Type 0 where
  pub room : size_of_row shape row ≤ 960
  pub header : FitsHeader row (size_of_row shape row)

-- what stands behind the attributes
pub behind_attributes : Shape → RowValue → List ℕ
behind_attributes shape row = end_mark ++ zero_bytes (1024 - length (record_text shape row))

pub ends-list : (shape : Shape) (row : RowValue) → kind_at 0 (behind_attributes shape row) ≡ end_kind
unfolding behind_attributes end_mark fields_bytes number_at
ends-list shape row = refl

pub length-header : (row : RowValue) (size : ℕ) → length (header_bytes row size) ≡ 0x38
unfolding header_bytes fields_bytes
length-header row size = refl

length-text : (shape : Shape) (row : RowValue) → length (record_text shape row) ≡ 0x38 + size_of_row shape row + 8
unfolding record_text end_mark fields_bytes
length-text shape row =
    let size = size_of_row shape row in
    let attributes = attributes_bytes shape 0 row.attributes in
    let header = length-header row (size_of_row shape row) in
    let front = length-append (header_bytes row size) attributes in
    length-append (header_bytes row size ++ attributes) end_mark ∙ omega arith

-- the record by its parts
pub block-is : (shape : Shape) (row : RowValue) → size_of_row shape row ≤ 960
    → block_of_row shape row
    ≡ header_bytes row (size_of_row shape row)
    ++ (attributes_bytes shape 0 row.attributes ++ behind_attributes shape row)
unfolding with_length record_text behind_attributes
block-is shape row room =
    let text = record_text shape row in
    let header = header_bytes row (size_of_row shape row) in
    let attributes = attributes_bytes shape 0 row.attributes in
    let long = length-text shape row in
    let zeros = zero_bytes (1024 - length (record_text shape row)) in
    ap (λ bytes. bytes ++ zero_bytes (1024 - length bytes)) (take-all text 1024 (omega arith))
    ∙ append_assoc (header ++ attributes) end_mark zeros ∙ append_assoc header attributes (end_mark ++ zeros)

pub block-header : (shape : Shape) (row : RowValue) → HasSmallRow shape row
    → IsHeaderOf row (size_of_row shape row) (block_of_row shape row)
block-header shape row small =
    let size = size_of_row shape row in
    let rest = attributes_bytes shape 0 row.attributes ++ behind_attributes shape row in
    subst (IsHeaderOf row size) (sym (block-is shape row small.room)) (header-read row size rest small.header)

pub block-magic : (shape : Shape) (row : RowValue) → take 4 (block_of_row shape row) ≡ codes "FILE"
unfolding with_length record_text header_bytes fields_bytes
block-magic shape row = refl

-- the record can be refixed and unfixed
pub block-whole : (shape : Shape) (row : RowValue) → HasWholeStrides (block_of_row shape row)
block-whole shape row = whole-sized 1024 (record_text shape row) refl (omega arith) (omega arith)

block-begins : (shape : Shape) (row : RowValue) → has_magic File (block_of_row shape row) ≡ true
unfolding has_magic magic_number number_at with_length record_text header_bytes fields_bytes
block-begins shape row = refl

block-array : (shape : Shape) (row : RowValue) → HasSmallRow shape row
    → has_good_array File (block_of_row shape row) ≡ true
unfolding has_good_array least_offset
block-array shape row small =
    let h = block-header shape row small in
    let long = length-sized 1024 (record_text shape row) in
    let offset = h.array_offset in
    let count = h.array_count in
    rw (long, offset, count) refl

pub block-front : (shape : Shape) (row : RowValue) → HasSmallRow shape row → HasFront File (block_of_row shape row)
block-front shape row small =
    record { begins = block-begins shape row; array = block-array shape row small }

-- ---- bytes that are the same outside the array

-- an array of three words at 0x30
pub record HasArray (bytes : List ℕ) : Type 0 where
  pub offset : array_offset bytes ≡ 0x30
  pub count : array_count bytes ≡ 3
  pub long : length bytes ≡ 1024

number-outside : (n p : ℕ) (bytes others : List ℕ) → HasArray bytes → SameOutsideArray bytes others → p + n ≤ 0x30
    → number_at n p others ≡ number_at n p bytes
number-outside n p bytes others a same before =
    number_at-same n p p others bytes
    (λ i l. same.bytes (p + i) (omega (arith, a.long)) (inl (omega (arith, a.offset))))

pub take-outside : (bytes others : List ℕ) → HasArray bytes → SameOutsideArray bytes others
    → take 4 others ≡ take 4 bytes
take-outside bytes others a same =
    let long = length-take-le 4 bytes (omega (arith, a.long)) in
    let other_long = length-take-le 4 others (omega (arith, a.long, same.long)) in
    ext_get_or 0 (take 4 others) (take 4 bytes) (other_long ∙ sym long)
    (λ i l. get_or-take 4 others i 0 (omega arith)
    ∙ same.bytes i (omega (arith, a.long)) (inl (omega (arith, a.offset)))
    ∙ sym (get_or-take 4 bytes i 0 (omega arith)))

-- what stands from the first attribute on
pub drop-outside : (bytes others : List ℕ) → HasArray bytes → SameOutsideArray bytes others
    → drop 0x38 others ≡ drop 0x38 bytes
drop-outside bytes others a same =
    let long = length-drop 0x38 bytes in
    let other_long = length-drop 0x38 others in
    ext_get_or 0 (drop 0x38 others) (drop 0x38 bytes) (omega (arith, a.long, same.long))
    (λ i within. get_or-drop 0x38 others i 0
    ∙ same.bytes (0x38 + i) (omega (arith, a.long, same.long)) (inr (omega (arith, a.offset, a.count)))
    ∙ sym (get_or-drop 0x38 bytes i 0))

pub header-outside : (row : RowValue) (size : ℕ) (bytes others : List ℕ) → length bytes ≡ 1024
    → IsHeaderOf row size bytes → SameOutsideArray bytes others → IsHeaderOf row size others
header-outside row size bytes others long h same =
    let a : HasArray bytes = record { offset = h.array_offset; count = h.array_count; long = long } in
    let reads = λ (n p : ℕ) (before : p + n ≤ 0x30). number-outside n p bytes others a same before in
    record {
      array_offset = offset_number others ∙ reads 2 0x04 (omega arith) ∙ sym (offset_number bytes) ∙ h.array_offset;
      array_count = count_number others ∙ reads 2 0x06 (omega arith) ∙ sym (count_number bytes) ∙ h.array_count;
      log_number = reads 8 0x08 (omega arith) ∙ h.log_number;
      sequence = reads 2 0x10 (omega arith) ∙ h.sequence;
      links = reads 2 0x12 (omega arith) ∙ h.links;
      first_attribute = reads 2 0x14 (omega arith) ∙ h.first_attribute;
      flags = reads 2 0x16 (omega arith) ∙ h.flags;
      in_use = reads 4 0x18 (omega arith) ∙ h.in_use;
      allocated = reads 4 0x1C (omega arith) ∙ h.allocated;
      base = reads 8 0x20 (omega arith) ∙ h.base;
      next_instance = reads 2 0x28 (omega arith) ∙ h.next_instance;
      number = reads 4 0x2C (omega arith) ∙ h.number;
    }
