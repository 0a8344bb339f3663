-- What the laws of a volume speak of. The words are ours.
use Rattle.std.specs.Prelude.{◌≡◌, ◌⊎◌, ◌*◌, ◌/◌, ℕ, true, List, [], ◌∷◌, ◌++◌, Contains, drop, filter, find, length, map, take, Option, Some, None, if◌then◌else◌}
use Rattle.std.specs.List.{AllByRecursion}
use Rattle.ntfs_attrlist.specs.Entry.{Listed}
use Rattle.ntfs_base.specs.Bytes.{stream}
use Rattle.ntfs_boot.specs.declared.geometry.Geometry.{Geometry}
use Rattle.ntfs_record.specs.FileRecord.{Attribute, FileRecord, Laid, attributes_of}
use Rattle.ntfs_record.specs.Slots.{Slot, map_laid, map_slots, on_payload}
use Rattle.ntfs_runs.specs.Cells.{Cells, cells_below, cells_of, map_cells}
use Rattle.ntfs_volume.specs.Gather.{Extent, id_of, is_member, lists, means}
use Rattle.ntfs_volume.specs.Listing.{RecordListing, filled_cells, is_list}
use Rattle.ntfs_volume.specs.Located.{Located, map_located, slot_at, unlocated}
use Rattle.ntfs_volume.specs.MftMap.{Map, begins_table, head_clusters, live_record}
use Rattle.ntfs_volume.specs.References.{has_base, target}
use Rattle.ntfs_volume.specs.StreamBytes.{clusters_in}

-- two images have the same bytes in these clusters, of which f and h give the bytes
abbrev pub AgreeAt : (ℕ → List ℕ) → (ℕ → List ℕ) → List ℕ → Type 0
AgreeAt f h [] = Unit {0}
AgreeAt f h (k ∷ ks) = (f k ≡ h k) × AgreeAt f h ks

-- each of these clusters has c bytes
abbrev pub HaveLength : (ℕ → List ℕ) → ℕ → List ℕ → Type 0
HaveLength f c ks = AllByRecursion (λ k. length (f k) ≡ c) ks

-- ---- what $MFT's map is told by

-- the bytes of the record 0 that stands at the boot sector's cluster
abbrev pub head_bytes : Geometry → (ℕ → List ℕ) → List ℕ
head_bytes g f = take g.record_size (stream f (head_clusters g))

-- the clusters of an attribute list, on a volume of n clusters; one that stands in its record has none
abbrev pub clusters_of_list : ℕ → Option (Attribute (Laid (List ℕ))) → List ℕ
clusters_of_list n None = []
clusters_of_list n (Some a) = if a.face.is_resident then [] else clusters_in (cells_below n a.payload.runs).cells

-- the clusters of the attribute list that stands among these attributes, of which the first counts
abbrev pub list_clusters : ℕ → List (Attribute (Laid (List ℕ))) → List ℕ
list_clusters n attributes = clusters_of_list n (find (λ (a : Attribute _). is_list a.face) attributes)

-- those of the list of a record, where there is such a record
abbrev pub clusters_of_listing : ℕ → Option FileRecord → List ℕ
clusters_of_listing n None = []
clusters_of_listing n (Some r) = list_clusters n (attributes_of r)

-- the attributes of record r, without their places
abbrev pub attributes_at : {P : Type 0} → ℕ → List (Slot (Located P)) → List (Attribute P)
attributes_at r slots = map unlocated (slot_at slots r).attributes

-- the clusters that tell this map: those of the record 0 at the boot sector's cluster, those of its attribute list, and
-- the map's own
abbrev pub told_by : Geometry → (ℕ → List ℕ) → Map → List ℕ
told_by g f map =
    head_clusters g ++ (clusters_of_listing g.clusters (live_record (head_bytes g f)) ++ map.clusters)

-- these are the clusters of the first extent of $MFT, as this record 0 tells it
pub record IsFirstExtent (first : FileRecord) (clusters : List ℕ) : Type 0 where
  pub attribute : Attribute (Laid (List ℕ))
  pub found : find (λ (a : Attribute _). begins_table a.face) (attributes_of first) ≡ Some attribute
  pub cells : clusters ≡ clusters_in (cells_of attribute.payload.runs).cells

-- the clusters from the one on in which the r-th record of a size begins, where a cluster has c bytes
abbrev pub clusters_from : ℕ → ℕ → ℕ → List ℕ → List ℕ
clusters_from size c r clusters = drop ((r * size) / c) clusters

-- ---- what gathering gives

-- record r is a base record, in use, and nothing is wrong with it
pub record IsBase {P : Type 0} (slots : List (Slot P)) (r : ℕ) : Type 0 where
  pub live : (slot_at slots r).is_live ≡ true
  pub sound : (slot_at slots r).is_sound ≡ true
  pub base : (slot_at slots r).head.base ≡ 0

-- the extent is the attribute that an entry of the list of base record r names: the first such attribute of the record
-- that the entry names, which is in use, sound, of the entry's sequence number, and a part of the file
pub record IsNamedBy {P : Type 0} (slots : List (Slot P)) (r : ℕ) (entry : Listed) (e : Extent P) : Type 0 where
  pub number : e.number ≡ target entry.reference
  pub live : (slot_at slots e.number).is_live ≡ true
  pub sound : (slot_at slots e.number).is_sound ≡ true
  pub head : e.head ≡ (slot_at slots e.number).head
  pub part : is_member r (slot_at slots r).head.sequence entry.reference e.head ≡ true
  pub first : find (λ (a : Attribute _). means entry (id_of a.face)) (slot_at slots e.number).attributes
      ≡ Some e.attribute

-- the extent is an attribute of the record that it names, which is in use, sound, and base record r or one that has it
-- as its base
pub record IsMember {P : Type 0} (slots : List (Slot P)) (r : ℕ) (e : Extent P) : Type 0 where
  pub live : (slot_at slots e.number).is_live ≡ true
  pub sound : (slot_at slots e.number).is_sound ≡ true
  pub head : e.head ≡ (slot_at slots e.number).head
  pub attribute : Contains (slot_at slots e.number).attributes e.attribute
  pub part : (e.number ≡ r) ⊎ (has_base e.head.base r (slot_at slots r).head.sequence ≡ true)

-- the extent is an attribute of this type and name
pub record IsOf {P : Type 0} (kind : ℕ) (name : List ℕ) (e : Extent P) : Type 0 where
  pub kind_is : e.attribute.face.kind ≡ kind
  pub name_is : e.attribute.face.name ≡ name

-- the numbers of the records that gathering reads: the base record, and those that entries of that type and name name
abbrev pub gathered_from : ℕ → ℕ → List ℕ → RecordListing → List ℕ
gathered_from r kind name listing =
    r ∷ map (λ (entry : Listed). target entry.reference) (filter (lists kind name) listing.entries)

-- two volumes have the same records of these numbers
abbrev pub SameRecords : {P : Type 0} → List (Slot P) → List (Slot P) → List ℕ → Type 0
SameRecords slots others numbers = AllByRecursion (λ n. slot_at slots n ≡ slot_at others n) numbers

-- the cell stands in the mapping pairs of an extent of base record r
pub record IsOfMember {X : Type 0} (slots : List (Slot (Located (Laid (Cells X))))) (r kind : ℕ) (name : List ℕ)
    (cell : Option X) : Type 0 where
  pub extent : Extent (Located (Laid (Cells X)))
  pub member : IsMember slots r extent
  pub named : IsOf kind name extent
  pub stands : Contains extent.attribute.payload.payload.runs.cells cell

-- ---- something else in place of each cluster

-- in cells
abbrev pub in_cells : {X Y : Type 0} → (X → Y) → Cells X → Cells Y
in_cells f cells = record { is_right = cells.is_right; cells = map_cells f cells.cells }

-- in an attribute's cells, and something else in place of its place
abbrev pub in_located : {X Y : Type 0} → (ℕ → ℕ) → (X → Y) → Located (Laid (Cells X)) → Located (Laid (Cells Y))
in_located moved f l = record { place = moved l.place; payload = map_laid (in_cells f) l.payload }

-- in all records
abbrev pub in_slots : {X Y : Type 0} → (ℕ → ℕ) → (X → Y) → List (Slot (Located (Laid (Cells X))))
    → List (Slot (Located (Laid (Cells Y))))
in_slots moved f slots = map_slots (on_payload (in_located moved f)) 0 slots

-- the records with the cells that their mapping pairs spell on a volume of n clusters, and the bytes that f gives of
-- each cluster in its place
abbrev pub with_bytes : ℕ → (ℕ → List ℕ) → List (Slot (Located (Laid (List ℕ))))
    → List (Slot (Located (Laid (Cells (List ℕ)))))
with_bytes n f slots = map_slots (on_payload (map_located (map_laid (filled_cells n f)))) 0 slots
