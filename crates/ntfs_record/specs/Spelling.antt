-- Bytes of a file record by its parts: a front of header and update sequence array, the attributes' own bytes one
-- after the other, and behind them the mark that ends the list (the Linux-NTFS documentation, "File Record" and
-- "Attribute Header"; the words are ours).
use Rattle.std.specs.Prelude.{ℕ, ◌≡◌, ◌≤◌, ◌+◌, List, ◌++◌, length, take, drop}
use Rattle.std.specs.List.{concat, AllByRecursion}
use Rattle.ntfs_base.specs.Bytes.{piece_at}
use Rattle.ntfs_record.specs.FileRecord.{FileRecord}
use Rattle.ntfs_record.specs.Layout.{first_attribute_of, in_use_of, kind_at}
use Rattle.ntfs_record.specs.Header.{head_of, layout_of}
use Rattle.ntfs_record.specs.Attribute.{end_kind, IsRaw}
use Rattle.ntfs_record.specs.Parsing.{raws_of}
use Rattle.ntfs_record.specs.IsRecord.{IsSoundHeader}

-- an attribute's own bytes stand at a place of others
abbrev pub Stands : ℕ → List ℕ → List ℕ → Type 0
Stands place raw bytes = piece_at place (length raw) bytes ≡ raw

-- each of these is an attribute of its own
abbrev pub AllRaw : List (List ℕ) → Type 0
AllRaw raws = AllByRecursion IsRaw raws

-- the parts of a record's bytes: what stands before the attributes, their own bytes, and what stands behind
pub record Spelling : Type 0 where
  pub front : List ℕ
  pub raws : List (List ℕ)
  pub rest : List ℕ

-- the bytes with these parts
abbrev pub spell : Spelling → List ℕ
spell s = s.front ++ (concat s.raws ++ s.rest)

-- the parts make a record with nothing wrong
pub record IsSpelling (s : Spelling) : Type 0 where
  pub header : IsSoundHeader (spell s)
  pub begins : first_attribute_of (spell s) ≡ length s.front
  pub all : AllRaw s.raws
  pub ends : kind_at 0 s.rest ≡ end_kind
  pub used : length s.front + length (concat s.raws) + 4 ≤ in_use_of (spell s)

-- what a record with these parts says
abbrev pub record_of_spelling : Spelling → FileRecord
record_of_spelling s = record { head = head_of (spell s); layout = layout_of (spell s); raws = s.raws }

-- where the attributes of a record end
abbrev pub attributes_end : List ℕ → ℕ
attributes_end bytes = first_attribute_of bytes + length (concat (raws_of bytes (first_attribute_of bytes)))

-- the parts of a record's bytes
abbrev pub spelling_of : List ℕ → Spelling
spelling_of bytes = record {
  front = take (first_attribute_of bytes) bytes;
  raws = raws_of bytes (first_attribute_of bytes);
  rest = drop (attributes_end bytes) bytes;
}
