-- Rules C10, C11 and C12, of files whose attributes stand in more than one record (the Linux-NTFS documentation, "File
-- Record", "$ATTRIBUTE_LIST" and "Attribute Header"; the rules are ours).
use Rattle.std.specs.Prelude.{◌==◌, ◌&&◌, ◌||◌, not, ℕ, suc, Bool, true, false, List, [], ◌∷◌, ◌++◌, filter, find, length, map, Option, Some, None, Result, Ok, Err, if◌then◌else◌}
use Rattle.std.specs.List.{list_all, list_any}
use Rattle.std.specs.Str.{bytes_eq}
use Rattle.ntfs_attrlist.specs.Entry.{Listed}
use Rattle.ntfs_rules.specs.Records.{first_bad, of_base}
use Rattle.ntfs_rules.specs.VolumeData.{Records}
use Rattle.ntfs_record.specs.FileRecord.{Attribute, Laid}
use Rattle.ntfs_record.specs.Slots.{Slot}
use Rattle.ntfs_runs.specs.Cells.{Cells}
use Rattle.ntfs_volume.specs.Gather.{Extent, Id, Lists, extent_at, extents, id_of, is_of, means}
use Rattle.ntfs_volume.specs.Listing.{RecordListing, is_list}
use Rattle.ntfs_volume.specs.Located.{Located, slot_at}
use Rattle.ntfs_volume.specs.References.{has_base, matches, target}
use Rattle.ntfs_volume.specs.Streams.{Part, part_of, stream_of}
use Rattle.ntfs_volume.specs.declared.fault.VolumeFault.{VolumeFault}

-- ---- C10

-- a record in use, and a base record, with this number, to which a reference matches
unfoldable pub is_base_for : {P : Type 0} → ℕ → Slot P → Bool
is_base_for reference s = s.is_live && ((s.head.base == 0) && matches reference (target reference) s.head.sequence)

-- a reference matches a base record in use
abbrev pub names_base : {P : Type 0} → List (Slot P) → ℕ → Bool
names_base slots reference = is_base_for reference (slot_at slots (target reference))

-- C10: the base reference of each record that has one matches a base record in use
unfoldable pub c10 : {P : Type 0} → List (Slot P) → Option ℕ
c10 slots = first_bad (λ r s. (s.head.base == 0) || names_base slots s.head.base) slots

-- ---- C11

-- an attribute of a file: the number and the sequence number of its record, and what tells it from others there
pub record Member : Type 0 where
  pub number : ℕ
  pub sequence : ℕ
  pub id : Id

-- an attribute of record r
abbrev pub member_at : {P : Type 0} → ℕ → Slot P → Attribute P → Member
member_at r s a = record { number = r; sequence = s.head.sequence; id = id_of a.face }

-- the attributes without the first that is a list
abbrev pub without_list : {P : Type 0} → List (Attribute P) → List (Attribute P)
without_list [] = []
without_list (a ∷ attributes) = if is_list a.face then attributes else a ∷ without_list attributes

-- the attributes of record n that are of the file of base record r, which has this sequence number: its own but the
-- list, and those of a record that has it as base
unfoldable pub members_at : {P : Type 0} → ℕ → ℕ → ℕ → Slot P → List Member
members_at r sequence n s =
    if n == r then map (member_at n s) (without_list s.attributes)
    else (if s.is_live && has_base s.head.base r sequence then map (member_at n s) s.attributes else [])

-- those of all records from number n on
unfoldable pub members_from : {P : Type 0} → ℕ → ℕ → ℕ → List (Slot P) → List Member
members_from r sequence n [] = []
members_from r sequence n (s ∷ ss) = members_at r sequence n s ++ members_from r sequence (suc n) ss

-- how many of the elements pass a test
abbrev pub count_of : {A : Type 0} → (A → Bool) → List A → ℕ
count_of test xs = length (filter test xs)

-- an entry of a list names an attribute: by type, name, lowest VCN and instance, with a reference that matches its
-- record
unfoldable pub names_member : Member → Listed → Bool
names_member m entry = means entry m.id && matches entry.reference m.number m.sequence

-- two attributes are the same in type, name, lowest VCN, record and instance
unfoldable pub is_same_member : Member → Member → Bool
is_same_member a b =
    (a.number == b.number)
    && ((a.id.kind == b.id.kind) && (bytes_eq a.id.name b.id.name
    && ((a.id.lowest == b.id.lowest) && (a.id.instance == b.id.instance))))

-- entries and attributes are each other's: each entry names one of these attributes, each attribute is named by one
-- entry alone, and no two attributes are the same
unfoldable pub are_listed : List Listed → List Member → Bool
are_listed entries members =
    list_all (λ (entry : Listed). list_any (λ (m : Member). names_member m entry) members) entries
    && list_all (λ (m : Member). (count_of (names_member m) entries == 1) && (count_of (is_same_member m) members == 1))
    members

-- no record in use has base record r, of this sequence number, as its base
abbrev pub is_no_base : {P : Type 0} → List (Slot P) → ℕ → ℕ → Bool
is_no_base slots r sequence = not (list_any (λ (s : Slot _). s.is_live && has_base s.head.base r sequence) slots)

-- base record r: without a list, no record has it as base; with one, which can be read, its entries are the attributes
-- of the file
unfoldable pub is_listed : {P : Type 0} → RecordListing → List (Slot P) → ℕ → ℕ → Bool
is_listed listing slots r sequence =
    if listing.is_there then
    listing.is_good && are_listed listing.entries (members_from r sequence 0 slots)
    else is_no_base slots r sequence

-- C11: so it is with each base record
unfoldable pub c11 : {P : Type 0} → Lists → List (Slot P) → Option ℕ
c11 listings slots = first_bad (λ r s. of_base s (is_listed (listings r) slots r s.head.sequence)) slots

-- ---- C12

-- of attributes that are one stream, the first is resident: there is no other; but there may be more names ($FILE_NAME,
-- type 0x30), all resident
unfoldable pub are_values : {X : Type 0} → ℕ → List (Part X) → Bool
are_values kind rest = if kind == 0x30 then list_all (λ (p : Part _). p.is_resident) rest else length rest == 0

-- it can be joined, whatever it is
abbrev pub is_joined : {A : Type 0} → Result A VolumeFault → Bool
is_joined (Ok found) = true
is_joined (Err fault) = false

-- attributes of one type and name are one stream: a resident one, or extents that join from VCN 0 and have room for the
-- sizes
unfoldable pub are_stream : {X : Type 0} → ℕ → ℕ → List (Part X) → Bool
are_stream c kind [] = true
are_stream c kind (first ∷ rest) =
    if first.is_resident then are_values kind rest else is_joined (stream_of c 0 (first ∷ rest))

-- one attribute as an extent of record r, where there is one
abbrev pub lead_of : {P : Type 0} → ℕ → ℕ → List ℕ → Slot P → Option (Attribute P) → List (Extent P)
lead_of r kind name s None = []
lead_of r kind name s (Some a) = if is_of kind name (id_of a.face) then extent_at r s.head a ∷ [] else []

-- the list of base record r, where it has this type and name: it is the first extent of them, which no entry names
unfoldable pub list_extents : {P : Type 0} → ℕ → ℕ → List ℕ → Slot P → List (Extent P)
list_extents r kind name s = lead_of r kind name s (find (λ (a : Attribute _). is_list a.face) s.attributes)

-- the extents of a type and name, which were gathered, are one stream
abbrev pub are_stream_found : {X : Type 0} → ℕ → ℕ → List (Extent (Located (Laid (Cells X))))
    → Result (List (Extent (Located (Laid (Cells X))))) VolumeFault → Bool
are_stream_found c kind lead (Ok found) = are_stream c kind (map part_of (lead ++ found))
are_stream_found c kind lead (Err fault) = false

-- all attributes of the type and name of an attribute of base record r are one stream, in the order of the list
unfoldable pub is_in_stream : {X : Type 0} → ℕ → Lists → Records X → ℕ → Slot (Located (Laid (Cells X))) → Id → Bool
is_in_stream c listings slots r s id =
    are_stream_found c id.kind (list_extents r id.kind id.name s) (extents listings slots r id.kind id.name)

-- what tells the attributes of the file of base record r from one another: those of its own, its list among them, and
-- those of records that have it as base
unfoldable pub ids_of : {P : Type 0} → List (Slot P) → ℕ → Slot P → List Id
ids_of slots r s =
    map (λ (a : Attribute _). id_of a.face) s.attributes
    ++ map (λ (m : Member). m.id) (members_from r s.head.sequence 0 slots)

-- C12: in each base record, attributes of one type and name are one stream
unfoldable pub c12 : {X : Type 0} → ℕ → Lists → Records X → Option ℕ
c12 c listings slots =
    first_bad (λ r s. of_base s (list_all (is_in_stream c listings slots r s) (ids_of slots r s))) slots
