-- What the views of a record show of it: the fields of an attribute without its offsets and its reserved bytes.
use Rattle.std.specs.Prelude.{ℕ, ◌≤◌, ◌<◌, ◌+◌, ◌^◌, length, Bool, true, false, List, [], ◌∷◌}
use Rattle.ntfs_record.specs.declared.attribute.AttributeView.{AttributeView}
use Rattle.ntfs_record.specs.declared.attribute.Body.{Body}
use Rattle.ntfs_record.specs.declared.attribute.Body.TheVariants.{Resident, Runs}
use Rattle.ntfs_record.specs.FileRecord.{Attribute, Laid, FileRecord}
use Rattle.ntfs_record.specs.Attribute.{attribute_of}

-- what is shown of an attribute's body; of a resident one the runs' fields are 0 and empty, of another the value is
-- empty
pub record ShownBody : Type 0 where
  pub is_resident : Bool
  pub value : List ℕ
  pub lowest : ℕ
  pub next : ℕ
  pub allocated : ℕ
  pub size : ℕ
  pub valid : ℕ
  pub pairs : List ℕ

-- what is shown of an attribute
pub record Shown : Type 0 where
  pub place : ℕ
  pub kind : ℕ
  pub name : List ℕ
  pub flags : ℕ
  pub instance : ℕ
  pub body : ShownBody

-- what is shown of an attribute's body
abbrev pub shown_body_of : Attribute (Laid (List ℕ)) → ShownBody
shown_body_of a = record {
  is_resident = a.face.is_resident;
  value = a.face.value;
  lowest = a.face.lowest;
  next = a.face.next;
  allocated = a.face.allocated;
  size = a.face.size;
  valid = a.face.valid;
  pairs = a.payload.runs;
}

-- what is shown of an attribute at a place
abbrev pub shown_attribute : ℕ → Attribute (Laid (List ℕ)) → Shown
shown_attribute place a = record {
  place = place;
  kind = a.face.kind;
  name = a.face.name;
  flags = a.face.flags;
  instance = a.face.instance;
  body = shown_body_of a;
}

-- an attribute's own bytes, and the place at which they stand in the record
pub record Placed : Type 0 where
  pub place : ℕ
  pub raw : List ℕ

-- attributes in a row from a place on
abbrev pub placed_from : ℕ → List (List ℕ) → List Placed
placed_from place [] = []
placed_from place (raw ∷ raws) = record { place = place; raw = raw } ∷ placed_from (place + length raw) raws

-- the attributes of a record, each at its place
abbrev pub placed_of : FileRecord → List Placed
placed_of r = placed_from r.layout.first_attribute r.raws

-- what is shown of an attribute in its record
abbrev pub shown_placed : Placed → Shown
shown_placed p = shown_attribute p.place (attribute_of p.raw)

-- what a body shows, its slices as lists
abbrev pub shown_body : Body → ShownBody
shown_body (Resident value) = record {
  is_resident = true;
  value = value.now;
  lowest = 0;
  next = 0;
  allocated = 0;
  size = 0;
  valid = 0;
  pairs = [];
}
shown_body (Runs lowest next allocated size valid pairs) = record {
  is_resident = false;
  value = [];
  lowest = lowest;
  next = next;
  allocated = allocated;
  size = size;
  valid = valid;
  pairs = pairs.now;
}

-- what a view shows, its slices as lists
abbrev pub shown_view : AttributeView → Shown
shown_view view = record {
  place = view.place;
  kind = view.kind;
  name = view.name.now;
  flags = view.flags;
  instance = view.instance;
  body = shown_body view.body;
}

-- what is shown of an attribute is bounded: its place and its slices by the record, its VCNs by 2^48
pub record HasBounds (shown : Shown) : Type 0 where
  pub place : shown.place + 28 < 2 ^ 32
  pub name : length shown.name < 2 ^ 32
  pub value : length shown.body.value < 2 ^ 32
  pub pairs : length shown.body.pairs < 2 ^ 32
  pub lowest : shown.body.lowest ≤ 2 ^ 48
  pub next : shown.body.lowest ≤ shown.body.next
  pub highest : shown.body.next ≤ 2 ^ 48 + 1
