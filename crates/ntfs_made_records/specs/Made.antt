-- What the readers of file records find in the records that the generator makes: the attributes that its table puts
-- into each, one after the other. The words are ours.
use Rattle.std.specs.Prelude.{◌≡◌, ◌+◌, ◌-◌, ◌==◌, ℕ, true, false, List, [], ◌∷◌, ◌++◌, length, take, Some, if◌then◌else◌}
use Rattle.std.specs.List.{AllByRecursion}
use Rattle.byteorder.specs.Endian.{little_bytes}
use Rattle.ntfs_record.specs.FileRecord.{Attribute, Face, FileRecord, Head, HeadLayout, Laid}
use Rattle.ntfs_record.specs.Slots.{Slot}
use Rattle.ntfs_runs.specs.Cells.{cells_below, cells_of}
use Rattle.ntfs_runs.specs.Clusters.{vcns}
use Rattle.ntfs_volume.specs.Located.{Located, idle}
use Rattle.ntfs_make.specs.declared.shape.Shape.{Shape}
use Rattle.ntfs_make.specs.declared.table.Extent.{Extent}
use Rattle.ntfs_make.specs.Attributes.{allocated_size_of, attribute_bytes, attributes_bytes, extent_lowest, extent_next, front_bytes, pairs_place, value_of}
use Rattle.ntfs_make.specs.Extents.{extent_runs, pairs_of, planned_runs, size_bytes}
use Rattle.ntfs_make.specs.Fields.{utf16_bytes, with_padding, zero_bytes}
use Rattle.ntfs_make.specs.Records.{base_reference, link_count}
use Rattle.ntfs_make.specs.Table.{AttributeValue, BodyValue, ZerosBody, BytesBody, ListBody, NameBody, RootBody, ExtentBody, RowValue}

-- ---- attributes

-- a resident attribute with a value
abbrev pub resident_face : ℕ → List ℕ → ℕ → List ℕ → Face
resident_face kind name instance value = record {
  kind = kind;
  name = utf16_bytes name;
  flags = 0;
  instance = instance;
  is_resident = true;
  value = value;
  lowest = 0;
  next = 0;
  allocated = 0;
  size = 0;
  valid = 0;
  unit = [];
  packed = [];
}

-- an attribute in clusters; `packed` is what stands at 0x40 before the mapping pairs, which is the size of the clusters
-- or, in an attribute with a name, its first four units
abbrev pub extent_face : Shape → ℕ → List ℕ → ℕ → Extent → Face
extent_face shape kind name instance extent = record {
  kind = kind;
  name = utf16_bytes name;
  flags = extent.flags;
  instance = instance;
  is_resident = false;
  value = [];
  lowest = extent_lowest shape extent;
  next = extent_next shape extent;
  allocated = allocated_size_of shape extent;
  size = size_bytes shape extent.size;
  valid = size_bytes shape extent.initialised;
  unit = little_bytes 2 extent.unit ++ zero_bytes 4;
  packed = take 8 (front_bytes shape name extent);
}

abbrev pub body_face : Shape → ℕ → List ℕ → ℕ → BodyValue → Face
body_face shape kind name instance (ExtentBody extent) = extent_face shape kind name instance extent
body_face shape kind name instance (ZerosBody count) =
    resident_face kind name instance (value_of shape (ZerosBody count))
body_face shape kind name instance (BytesBody bytes) =
    resident_face kind name instance (value_of shape (BytesBody bytes))
body_face shape kind name instance (ListBody entries) =
    resident_face kind name instance (value_of shape (ListBody entries))
body_face shape kind name instance (NameBody file) =
    resident_face kind name instance (value_of shape (NameBody file))
body_face shape kind name instance (RootBody node) =
    resident_face kind name instance (value_of shape (RootBody node))

-- the plain values of an attribute of the table with its instance
unfoldable pub made_face : Shape → ℕ → AttributeValue → Face
made_face shape instance attribute = body_face shape attribute.kind attribute.name instance attribute.body

-- a resident attribute has no mapping pairs, and its value stands behind its name
abbrev pub resident_laid : List ℕ → Laid (List ℕ)
resident_laid name = record {
  spot = record { name_offset = 24; body_offset = 24 + length (with_padding (utf16_bytes name)) };
  runs = [];
}

-- the bytes of an extent's mapping pairs, with the zeros behind them up to the attribute's end
abbrev pub made_pairs : Shape → Extent → List ℕ
made_pairs shape extent = with_padding (pairs_of shape (planned_runs extent))

abbrev pub extent_laid : Shape → List ℕ → Extent → Laid (List ℕ)
extent_laid shape name extent = record {
  spot = record { name_offset = 64; body_offset = pairs_place shape name extent };
  runs = made_pairs shape extent;
}

abbrev pub body_laid : Shape → List ℕ → BodyValue → Laid (List ℕ)
body_laid shape name (ExtentBody extent) = extent_laid shape name extent
body_laid shape name (ZerosBody count) = resident_laid name
body_laid shape name (BytesBody bytes) = resident_laid name
body_laid shape name (ListBody entries) = resident_laid name
body_laid shape name (NameBody file) = resident_laid name
body_laid shape name (RootBody node) = resident_laid name

-- where name and body of an attribute of the table stand in its bytes, and those of its mapping pairs
unfoldable pub made_laid : Shape → AttributeValue → Laid (List ℕ)
made_laid shape attribute = body_laid shape attribute.name attribute.body

-- the attributes of a record from a place and an instance on, one behind the other
abbrev pub made_attributes : Shape → ℕ → ℕ → List AttributeValue → List (Attribute (Located (Laid (List ℕ))))
made_attributes shape place instance [] = []
made_attributes shape place instance (attribute ∷ attributes) =
    record {
      face = made_face shape instance attribute;
      payload = record { place = place; payload = made_laid shape attribute };
    }
    ∷ made_attributes shape (place + length (attribute_bytes shape instance attribute)) (instance + 1) attributes

-- ---- records

-- the plain values of a row's record
abbrev pub made_head : RowValue → Head
made_head row = record {
  log_number = 0;
  sequence = 1;
  links = link_count row.attributes;
  flags = row.flags;
  base = base_reference row.base;
  next_instance = length row.attributes;
}

-- the record of a row; one without flags isn't in use
unfoldable pub made_slot : Shape → RowValue → Slot (Located (Laid (List ℕ)))
made_slot shape row =
    if row.flags == 0 then idle false
    else record {
      is_live = true;
      is_sound = true;
      is_baad = false;
      head = made_head row;
      attributes = made_attributes shape 0x38 0 row.attributes;
    }

-- where the parts of a row's record stand
abbrev pub made_layout : Shape → RowValue → HeadLayout
made_layout shape row = record {
  array_offset = 0x30;
  array_count = 3;
  first_attribute = 0x38;
  in_use = 0x38 + length (attributes_bytes shape 0 row.attributes) + 8;
  allocated = 1024;
  number = Some row.number;
}

-- the own bytes of the attributes from an instance on
abbrev pub made_raws : Shape → ℕ → List AttributeValue → List (List ℕ)
made_raws shape instance [] = []
made_raws shape instance (attribute ∷ attributes) =
    attribute_bytes shape instance attribute ∷ made_raws shape (instance + 1) attributes

-- the record of a row in use, with its attributes' own bytes
unfoldable pub made_record : Shape → RowValue → FileRecord
made_record shape row = record {
  head = made_head row;
  layout = made_layout shape row;
  raws = made_raws shape 0 row.attributes;
}

-- ---- clusters

-- the mapping pairs of an extent are right and spell its runs, cell by cell: clusters of the volume and holes, one for
-- each VCN from the lowest on
pub record HasMadeCells (shape : Shape) (extent : Extent) : Type 0 where
  pub reads : cells_of (made_pairs shape extent)
      ≡ record { is_right = true; cells = vcns (extent_runs shape (planned_runs extent)) }
  pub below : cells_below shape.clusters (made_pairs shape extent)
      ≡ record { is_right = true; cells = vcns (extent_runs shape (planned_runs extent)) }
  pub count : length (vcns (extent_runs shape (planned_runs extent)))
      ≡ extent_next shape extent - extent_lowest shape extent

-- an extent has its cells; a resident attribute has none
abbrev pub HasBodyCells : Shape → BodyValue → Type 0
HasBodyCells shape (ExtentBody extent) = HasMadeCells shape extent
HasBodyCells shape (ZerosBody count) = Unit {0}
HasBodyCells shape (BytesBody bytes) = Unit {0}
HasBodyCells shape (ListBody entries) = Unit {0}
HasBodyCells shape (NameBody file) = Unit {0}
HasBodyCells shape (RootBody node) = Unit {0}

-- the extents of a row have their cells
abbrev pub HaveMadeCells : Shape → RowValue → Type 0
HaveMadeCells shape row = AllByRecursion (λ attribute. HasBodyCells shape attribute.body) row.attributes
