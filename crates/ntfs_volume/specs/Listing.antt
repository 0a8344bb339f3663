-- What the attributes of a base record say of its attribute list (the Linux-NTFS documentation, "$ATTRIBUTE_LIST"):
-- whether there is one, whether it can be read, and its entries. The words are ours, and so is the greatest size.
use Rattle.std.specs.Prelude.{◌^◌, ◌==◌, ◌&&◌, ℕ, Bool, true, false, List, [], length, map, filter, find, Option, Some, None, Result, Ok, Err, nat_le, if◌then◌else◌}
use Rattle.std.specs.Str.{bytes_eq}
use Rattle.ntfs_attrlist.specs.Entry.{Listed}
use Rattle.ntfs_attrlist.specs.Reading.{list_entries}
use Rattle.ntfs_attrlist.specs.declared.fault.BadEntry.{BadEntry}
use Rattle.ntfs_record.specs.FileRecord.{Attribute, Face, Laid}
use Rattle.ntfs_record.specs.Slots.{map_laid}
use Rattle.ntfs_runs.specs.Cells.{Cells, cells_below, map_cells}
use Rattle.ntfs_volume.specs.StreamBytes.{have_room, runs_bytes}

-- the list of a record: without one there are no entries and nothing is wrong, and one that can't be read has none
pub record RecordListing : Type 0 where
  pub is_there : Bool
  pub is_good : Bool
  pub entries : List Listed

-- the attribute is a list of attributes, named or not
abbrev pub is_list : Face → Bool
is_list face = face.kind == 0x20

-- the attribute is a list of this name
abbrev pub is_list_named : List ℕ → Face → Bool
is_list_named name face = is_list face && bytes_eq face.name name

-- the greatest size of a list that isn't resident
abbrev pub most_list : ℕ
most_list = 2 ^ 24

-- how many of the attributes are lists of this name
abbrev pub lists_named : {P : Type 0} → List ℕ → List (Attribute P) → ℕ
lists_named name attributes = length (filter (λ (a : Attribute _). is_list_named name a.face) attributes)

-- a list that isn't resident has right pairs, which spell a cell for each of its VCNs from 0 on, and sizes that fit
abbrev pub is_readable_list : {X : Type 0} → ℕ → Face → Cells X → Bool
is_readable_list c face cells =
    (face.lowest == 0) && ((cells.is_right && (length cells.cells == face.next))
    && (nat_le face.size most_list && have_room c (length cells.cells) face.size face.valid))

-- the bytes of a list: its value, or those of its clusters, where it is one extent and can be read
unfoldable pub bytes_of_list : ℕ → Attribute (Laid (Cells (List ℕ))) → List (Attribute (Laid (Cells (List ℕ))))
    → Option (List ℕ)
bytes_of_list c a attributes =
    if a.face.is_resident then Some a.face.value
    else (if (lists_named a.face.name attributes == 1) && is_readable_list c a.face a.payload.runs
    then Some (runs_bytes c a.face.size a.face.valid a.payload.runs.cells) else None)

-- no list
abbrev pub no_listing : RecordListing
no_listing = record { is_there = false; is_good = true; entries = [] }

-- a list that can't be read
abbrev pub bad_listing : RecordListing
bad_listing = record { is_there = true; is_good = false; entries = [] }

-- the entries of a list, or a place at which none stands
abbrev pub listing_of_entries : Result (List Listed) BadEntry → RecordListing
listing_of_entries (Ok entries) = record { is_there = true; is_good = true; entries = entries }
listing_of_entries (Err fault) = bad_listing

-- what the bytes of a list say
abbrev pub listing_of_bytes : Option (List ℕ) → RecordListing
listing_of_bytes None = bad_listing
listing_of_bytes (Some bytes) = listing_of_entries (list_entries bytes)

-- what the first list says
abbrev pub listing_of : ℕ → Option (Attribute (Laid (Cells (List ℕ)))) → List (Attribute (Laid (Cells (List ℕ))))
    → RecordListing
listing_of c None attributes = no_listing
listing_of c (Some a) attributes = listing_of_bytes (bytes_of_list c a attributes)

-- what the attributes of a record say of its list, where their cells have the bytes of clusters of c bytes
unfoldable pub listing_in : ℕ → List (Attribute (Laid (Cells (List ℕ)))) → RecordListing
listing_in c attributes = listing_of c (find (λ (a : Attribute _). is_list a.face) attributes) attributes

-- ---- cells with the bytes of their clusters

-- the cells that mapping pairs spell on a volume of n clusters, filled with the bytes that f gives of a cluster
abbrev pub filled_cells : ℕ → (ℕ → List ℕ) → List ℕ → Cells (List ℕ)
filled_cells n f pairs =
    record { is_right = (cells_below n pairs).is_right; cells = map_cells f (cells_below n pairs).cells }

-- the attribute with such cells
abbrev pub filled_attribute : ℕ → (ℕ → List ℕ) → Attribute (Laid (List ℕ)) → Attribute (Laid (Cells (List ℕ)))
filled_attribute n f a = record { face = a.face; payload = map_laid (filled_cells n f) a.payload }

-- the attributes with such cells
abbrev pub filled_attributes : ℕ → (ℕ → List ℕ) → List (Attribute (Laid (List ℕ)))
    → List (Attribute (Laid (Cells (List ℕ))))
filled_attributes n f attributes = map (filled_attribute n f) attributes
