-- A generated record is unfixed and parsed to its row's attributes.
use Rattle.std.proofs.Common.{◌≡◌, ◌≤◌, ◌+◌, ℕ, List, [], ◌∷◌, ◌++◌, length, map, take, drop, codes, Ok, Some, refl, sym, ap, ◌∙◌, subst, arith}
use Rattle.std.specs.List.{concat}
use Rattle.std.proofs.lemmas.List.{length-take-le, take-append-drop}
use Rattle.std.proofs.Math.Seq.{drop-append_seam}
use Rattle.ntfs_fixup.specs.declared.header.Magic.TheVariants.{File}
use Rattle.ntfs_fixup.specs.Fixups.{SameOutsideArray, refix_of, unfix_block}
use Rattle.ntfs_fixup.proofs.LawLemmas.{SameOutsideArray-refix_of, has_good_array-any, unfix_of-refix_of}
use Rattle.ntfs_record.specs.FileRecord.{Attribute, FileRecord, Laid, attributes_of}
use Rattle.ntfs_record.specs.Layout.{first_attribute_of, in_use_of}
use Rattle.ntfs_record.specs.Attribute.{attribute_of}
use Rattle.ntfs_record.specs.Header.{head_of, layout_of}
use Rattle.ntfs_record.specs.IsRecord.{IsSoundHeader}
use Rattle.ntfs_record.specs.Parsing.{parse_of}
use Rattle.ntfs_record.specs.Slots.{if_parsed, if_unfixed, record_in}
use Rattle.ntfs_record.specs.Spelling.{AllRaw, IsSpelling, Spelling, spell}
use Rattle.ntfs_record.specs.Views.{placed_from}
use Rattle.ntfs_record.proofs.SpellingLemmas.{spelled-parses}
use Rattle.ntfs_volume.specs.Located.{located_attributes, located_of, unlocated}
use Rattle.ntfs_make.specs.declared.shape.Shape.{Shape}
use Rattle.ntfs_make.specs.Attributes.{attribute_bytes, attributes_bytes}
use Rattle.ntfs_make.specs.ReadBack.{IsHeaderOf}
use Rattle.ntfs_make.specs.Records.{header_bytes}
use Rattle.ntfs_make.specs.Table.{AttributeValue, RowValue}
use Rattle.ntfs_make.proofs.BlockLemmas.{length-sized}
use Rattle.ntfs_made_records.specs.Made.{made_attributes, made_face, made_head, made_laid, made_layout, made_raws, made_record}
use Rattle.ntfs_made_records.proofs.BlockLemmas.{HasArray, HasSmallRow, behind_attributes, block-front, block-header, block-is, block-magic, block-whole, block_of_row, drop-outside, ends-list, header-outside, length-header, size_of_row, take-outside}
use Rattle.ntfs_made_records.proofs.SpeltLemmas.{IsSpelt}

-- ---- attributes in a row

-- what an attribute of the table with its instance says
abbrev pub made_attribute : Shape → ℕ → AttributeValue → Attribute (Laid (List ℕ))
made_attribute shape instance attribute =
    record { face = made_face shape instance attribute; payload = made_laid shape attribute }

-- each attribute from an instance on is spelled
abbrev pub AllSpelt : Shape → ℕ → List AttributeValue → Type 0
AllSpelt shape instance [] = Unit {0}
AllSpelt shape instance (attribute ∷ attributes) =
    IsSpelt (attribute_bytes shape instance attribute) (made_attribute shape instance attribute)
    × AllSpelt shape (instance + 1) attributes

concat-raws : (shape : Shape) (instance : ℕ) (attributes : List AttributeValue)
    → concat (made_raws shape instance attributes) ≡ attributes_bytes shape instance attributes
concat-raws shape instance [] = refl
concat-raws shape instance (attribute ∷ attributes) =
    ap (λ bytes. attribute_bytes shape instance attribute ++ bytes) (concat-raws shape (instance + 1) attributes)

raws-sound : (shape : Shape) (instance : ℕ) (attributes : List AttributeValue) → AllSpelt shape instance attributes
    → AllRaw (made_raws shape instance attributes)
raws-sound shape instance [] all = tt
raws-sound shape instance (attribute ∷ attributes) all =
    (all.0.is, raws-sound shape (instance + 1) attributes all.1)

located-row : (shape : Shape) (place instance : ℕ) (attributes : List AttributeValue)
    → AllSpelt shape instance attributes
    → map located_of (placed_from place (made_raws shape instance attributes))
    ≡ made_attributes shape place instance attributes
located-row shape place instance [] all = refl
located-row shape place instance (attribute ∷ attributes) all =
    let first = all.0.says in
    let behind = place + length (attribute_bytes shape instance attribute) in
    let rest = located-row shape behind (instance + 1) attributes all.1 in
    rw (first, rest) refl

attributes-row : (shape : Shape) (place instance : ℕ) (attributes : List AttributeValue)
    → AllSpelt shape instance attributes
    → map attribute_of (made_raws shape instance attributes)
    ≡ map unlocated (made_attributes shape place instance attributes)
attributes-row shape place instance [] all = refl
attributes-row shape place instance (attribute ∷ attributes) all =
    let first = all.0.says in
    let behind = place + length (attribute_bytes shape instance attribute) in
    let rest = attributes-row shape behind (instance + 1) attributes all.1 in
    rw (first, rest) refl

pub made-located : (shape : Shape) (row : RowValue) → AllSpelt shape 0 row.attributes
    → located_attributes (made_record shape row) ≡ made_attributes shape 0x38 0 row.attributes
unfolding made_record
made-located shape row all = located-row shape 0x38 0 row.attributes all

pub made-attributes : (shape : Shape) (row : RowValue) → AllSpelt shape 0 row.attributes
    → attributes_of (made_record shape row) ≡ map unlocated (made_attributes shape 0x38 0 row.attributes)
unfolding made_record
made-attributes shape row all = attributes-row shape 0x38 0 row.attributes all

-- ---- the record

-- the row's attributes are spelled, and it has room in a record
pub record IsSmallRow (shape : Shape) (row : RowValue) : Type 0 where
  pub small : HasSmallRow shape row
  pub all : AllSpelt shape 0 row.attributes

-- bytes that are the same as the record's outside the array, by their parts
abbrev spelling_like : Shape → RowValue → List ℕ → Spelling
spelling_like shape row others = record {
  front = take 0x38 others;
  raws = made_raws shape 0 row.attributes;
  rest = behind_attributes shape row;
}

record IsLike (shape : Shape) (row : RowValue) (others : List ℕ) : Type 0 where
  long : length others ≡ 1024
  magic : take 4 others ≡ codes "FILE"
  header : IsHeaderOf row (size_of_row shape row) others
  whole : spell (spelling_like shape row others) ≡ others

like : (shape : Shape) (row : RowValue) (others : List ℕ) → HasSmallRow shape row
    → SameOutsideArray (block_of_row shape row) others → IsLike shape row others
like shape row others small same =
    let block = block_of_row shape row in
    let h = block-header shape row small in
    let long = length-sized 1024 _ in
    let a : HasArray (block_of_row shape row)
    = record { offset = h.array_offset; count = h.array_count; long = long } in
    let header = header_bytes row (size_of_row shape row) in
    let rest = attributes_bytes shape 0 row.attributes ++ behind_attributes shape row in
    let front = take 0x38 others in
    let tail : drop 0x38 block ≡ rest
    = ap (drop 0x38) (block-is shape row small.room)
    ∙ ap (λ n. drop n (header ++ rest)) (sym (length-header row (size_of_row shape row)))
    ∙ drop-append_seam header rest in
    record {
      long = same.long ∙ long;
      magic = take-outside block others a same ∙ block-magic shape row;
      header = header-outside row (size_of_row shape row) block others long h same;
      whole = ap (λ bytes. front ++ (bytes ++ behind_attributes shape row)) (concat-raws shape 0 row.attributes)
          ∙ ap (λ bytes. front ++ bytes) (sym tail ∙ sym (drop-outside block others a same))
          ∙ take-append-drop 0x38 others;
    }

sound-header : (shape : Shape) (row : RowValue) (others : List ℕ) → size_of_row shape row ≤ 960
    → IsLike shape row others → IsSoundHeader others
sound-header shape row others room l =
    let h = l.header in
    record {
      magic = l.magic;
      fields = omega (arith, l.long);
      allocated = h.allocated ∙ sym l.long;
      in_use = omega (arith, h.in_use, h.allocated);
      aligned = rw h.first_attribute refl;
      behind_array = omega (arith, h.array_offset, h.array_count, h.first_attribute);
      behind_header = omega (arith, h.first_attribute);
      before_end = omega (arith, h.first_attribute, h.in_use);
    }

is-spelling : (shape : Shape) (row : RowValue) (others : List ℕ) → IsSmallRow shape row → IsLike shape row others
    → IsSpelling (spelling_like shape row others)
is-spelling shape row others small l =
    let h = l.header in
    let front = length-take-le 0x38 others (omega (arith, l.long)) in
    let used = ap in_use_of l.whole ∙ h.in_use in
    let joined = ap length (concat-raws shape 0 row.attributes) in
    record {
      header = subst IsSoundHeader (sym l.whole) (sound-header shape row others small.small.room l);
      begins = ap first_attribute_of l.whole ∙ h.first_attribute ∙ sym front;
      all = raws-sound shape 0 row.attributes small.all;
      ends = ends-list shape row;
      used = omega (arith, front, used, joined);
    }

head-is : (shape : Shape) (row : RowValue) (others : List ℕ) → IsHeaderOf row (size_of_row shape row) others
    → head_of others ≡ made_head row
head-is shape row others h = rw (h.log_number, h.sequence, h.links, h.flags, h.base, h.next_instance) refl

layout-is : (shape : Shape) (row : RowValue) (others : List ℕ) → IsHeaderOf row (size_of_row shape row) others
    → layout_of others ≡ made_layout shape row
layout-is shape row others h =
    rw (h.array_offset, h.array_count, h.first_attribute, h.in_use, h.allocated, h.number) refl

-- what bytes with these attributes say
abbrev record_like : Shape → RowValue → List ℕ → FileRecord
record_like shape row bytes =
    record { head = head_of bytes; layout = layout_of bytes; raws = made_raws shape 0 row.attributes }

record-is : (shape : Shape) (row : RowValue) (others : List ℕ) → IsHeaderOf row (size_of_row shape row) others
    → record_like shape row others ≡ made_record shape row
unfolding made_record
record-is shape row others h =
    let head = head-is shape row others h in
    let layout = layout-is shape row others h in
    ap (λ x. record { head = x; layout = layout_of others; raws = made_raws shape 0 row.attributes }) head
    ∙ ap (λ x. record { head = made_head row; layout = x; raws = made_raws shape 0 row.attributes }) layout

-- bytes that are the same as the record's outside the array parse to it
like-parses : (shape : Shape) (row : RowValue) (others : List ℕ) → IsSmallRow shape row
    → SameOutsideArray (block_of_row shape row) others → parse_of others ≡ Ok (made_record shape row)
like-parses shape row others small same =
    let l = like shape row others small.small same in
    let s = spelling_like shape row others in
    ap parse_of (sym l.whole) ∙ spelled-parses s (is-spelling shape row others small l)
    ∙ ap (λ bytes. Ok (record_like shape row bytes)) l.whole
    ∙ ap Ok (record-is shape row others l.header)

-- ---- as it stands on disk

pub record-read : (shape : Shape) (row : RowValue) → IsSmallRow shape row
    → record_in (refix_of (block_of_row shape row)) ≡ Some (made_record shape row)
unfolding record_in
record-read shape row small =
    let block = block_of_row shape row in
    let whole = block-whole shape row in
    let front = block-front shape row small.small in
    let array = has_good_array-any File (block_of_row shape row) front.array in
    let same = SameOutsideArray-refix_of (block_of_row shape row) whole array in
    ap if_unfixed (unfix_of-refix_of File block whole front)
    ∙ ap if_parsed (like-parses shape row (unfix_block (refix_of block)) small same)
