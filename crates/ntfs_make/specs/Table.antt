-- What the tables of the generator are made of, as values: the rows of the source without their references. The words
-- are ours.
use Rattle.std.specs.Prelude.{ℕ, List, [], ◌∷◌, map, Option, None}
use Rattle.ntfs_make.specs.declared.table.Row.{Row}
use Rattle.ntfs_make.specs.declared.table.Attribute.{Attribute}
use Rattle.ntfs_make.specs.declared.table.AttributeBody.{AttributeBody}
use Rattle.ntfs_make.specs.declared.table.AttributeBody.TheVariants as a_body
use Rattle.ntfs_make.specs.declared.table.FileName.{FileName}
use Rattle.ntfs_make.specs.declared.table.ListEntry.{ListEntry}
use Rattle.ntfs_make.specs.declared.table.LowestVcn.{LowestVcn}
use Rattle.ntfs_make.specs.declared.table.Root.{Root}
use Rattle.ntfs_make.specs.declared.table.Root.TheVariants as a_root
use Rattle.ntfs_make.specs.declared.table.Extent.{Extent}
use Rattle.ntfs_make.specs.declared.table.PlannedRun.{PlannedRun}
use Rattle.ntfs_make.specs.declared.table.PlannedRun.TheVariants.{NoRun}
use Rattle.ntfs_make.specs.declared.table.Size.{Size}
use Rattle.ntfs_make.specs.declared.table.RootName.{RootName}

-- a file name: the record of its directory, its namespace, its letters
pub record NameValue : Type 0 where
  pub parent : ℕ
  pub space : ℕ
  pub letters : List ℕ

-- what an index root has: the end with the child 0; the end; a name of a record, and the end
pub data RootValue : Type 0 where
  ChildRoot : RootValue
  EmptyRoot : RootValue
  OneRoot : (record_number : ℕ) (file : NameValue) → RootValue

-- what an attribute has: a resident value of zeros, of bytes, of a list, of a name, of an index root; or an extent
pub data BodyValue : Type 0 where
  ZerosBody : (count : ℕ) → BodyValue
  BytesBody : (bytes : List ℕ) → BodyValue
  ListBody : (entries : List ListEntry) → BodyValue
  NameBody : (file : NameValue) → BodyValue
  RootBody : (node : RootValue) → BodyValue
  ExtentBody : (extent : Extent) → BodyValue

-- an attribute: its type, its name, and what it has
pub record AttributeValue : Type 0 where
  pub kind : ℕ
  pub name : List ℕ
  pub body : BodyValue

-- a record: its number, its flags, its base record where it is an extension, and its attributes
pub record RowValue : Type 0 where
  pub number : ℕ
  pub flags : ℕ
  pub base : Option ℕ
  pub attributes : List AttributeValue

-- a name of the root's index, and the record that has it
pub record RootNameValue : Type 0 where
  pub number : ℕ
  pub name : NameValue

-- the rows of the source as values
abbrev pub name_value : FileName → NameValue
name_value file = record { parent = file.parent; space = file.space; letters = file.letters.now }

abbrev pub root_value : Root → RootValue
root_value a_root.Child = ChildRoot
root_value a_root.Empty = EmptyRoot
root_value (a_root.One number file) = OneRoot number (name_value file)

abbrev pub body_value : AttributeBody → BodyValue
body_value (a_body.Zeros count) = ZerosBody count
body_value (a_body.Bytes bytes) = BytesBody bytes.now
body_value (a_body.List entries) = ListBody entries.now
body_value (a_body.Name file) = NameBody (name_value file)
body_value (a_body.Root node) = RootBody (root_value node)
body_value (a_body.Extent extent) = ExtentBody extent

abbrev pub attribute_value : Attribute → AttributeValue
attribute_value attribute =
    record { kind = attribute.kind; name = attribute.name.now; body = body_value attribute.body }

abbrev pub row_value : Row → RowValue
row_value row = record {
  number = row.number;
  flags = row.flags;
  base = row.base;
  attributes = map attribute_value row.attributes.now;
}

abbrev pub root_name_value : RootName → RootNameValue
root_name_value one = record { number = one.number; name = name_value one.name }

-- the forms of rows
abbrev pub name_with : ℕ → ℕ → List ℕ → NameValue
name_with parent space letters = record { parent = parent; space = space; letters = letters }

abbrev pub standard_attribute : AttributeValue
standard_attribute = record { kind = 0x10; name = []; body = ZerosBody 72 }

abbrev pub name_attribute : ℕ → ℕ → List ℕ → AttributeValue
name_attribute parent space letters =
    record { kind = 0x30; name = []; body = NameBody (name_with parent space letters) }

abbrev pub value_attribute : ℕ → List ℕ → List ℕ → AttributeValue
value_attribute kind letters bytes = record { kind = kind; name = letters; body = BytesBody bytes }

abbrev pub list_attribute : List ListEntry → AttributeValue
list_attribute entries = record { kind = 0x20; name = []; body = ListBody entries }

abbrev pub list_entry : ℕ → LowestVcn → ℕ → ℕ → ListEntry
list_entry kind lowest number instance =
    record { kind = kind; lowest = lowest; number = number; instance = instance }

abbrev pub root_attribute : RootValue → AttributeValue
root_attribute node = record { kind = 0x90; name = 0x24 ∷ 0x49 ∷ 0x33 ∷ 0x30 ∷ []; body = RootBody node }

abbrev pub extent_attribute : ℕ → List ℕ → Extent → AttributeValue
extent_attribute kind letters extent = record { kind = kind; name = letters; body = ExtentBody extent }

-- an extent of one run, of a stream of one size, with what stands before and behind it in the stream
abbrev pub one_run : PlannedRun → PlannedRun → PlannedRun → Size → Extent
one_run before run behind size = record {
  flags = 0;
  unit = 0;
  compressed_size = None;
  before = before;
  first = run;
  second = NoRun;
  third = NoRun;
  behind = behind;
  size = size;
  initialised = size;
}

-- the unnamed $DATA of one run and one size
abbrev pub data_attribute : PlannedRun → Size → AttributeValue
data_attribute run size = extent_attribute 0x80 [] (one_run NoRun run NoRun size)

abbrev pub row_with : ℕ → ℕ → Option ℕ → List AttributeValue → RowValue
row_with number flags base attributes =
    record { number = number; flags = flags; base = base; attributes = attributes }

-- a file in the root, whose name is of both namespaces
abbrev pub file_row : ℕ → List ℕ → AttributeValue → RowValue
file_row number letters contents =
    row_with number 1 None (standard_attribute ∷ name_attribute 5 3 letters ∷ contents ∷ [])

-- a record that is not in use
abbrev pub unused_row : ℕ → RowValue
unused_row number = row_with number 0 None []
