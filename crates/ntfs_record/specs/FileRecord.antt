-- What a file record says (the Linux-NTFS documentation, "File Record" and "Attribute Header"; the form is ours): a
-- head of plain values, where its parts stand, and the bytes of each attribute.
pub use Rattle.ntfs_record.specs.Face.{Face, Attribute, Spot, Laid}
use Rattle.std.specs.Prelude.{ℕ, Option, List, map}
use Rattle.ntfs_record.specs.Attribute.{attribute_of}

-- the plain values of a file record, none of which tells where something stands in it
pub record Head : Type 0 where
  pub log_number : ℕ
  pub sequence : ℕ
  pub links : ℕ
  pub flags : ℕ
  pub base : ℕ
  pub next_instance : ℕ

-- where the parts of a file record stand, how long it is, and the number that it tells
pub record HeadLayout : Type 0 where
  pub array_offset : ℕ
  pub array_count : ℕ
  pub first_attribute : ℕ
  pub in_use : ℕ
  pub allocated : ℕ
  pub number : Option ℕ

-- a file record, with each attribute's own bytes, in their order
pub record FileRecord : Type 0 where
  pub head : Head
  pub layout : HeadLayout
  pub raws : List (List ℕ)

-- what the attributes say
abbrev pub attributes_of : FileRecord → List (Attribute (Laid (List ℕ)))
attributes_of r = map attribute_of r.raws
