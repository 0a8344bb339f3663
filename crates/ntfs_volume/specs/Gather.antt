-- The extents of a stream: the attributes of one type and name of a base record, wherever they stand (the Linux-NTFS
-- documentation, "$ATTRIBUTE_LIST" and "File Record"; the refusals and their order are ours). It never looks at the
-- image: what the attribute lists say is handed in, and anything may stand for the clusters.
use Rattle.std.specs.Prelude.{◌≡◌, ◌==◌, ◌&&◌, ℕ, Bool, List, [], ◌∷◌, map, filter, find, Result, Ok, if◌then◌else◌}
use Rattle.std.specs.Option.{ok_or}
use Rattle.std.specs.Str.{bytes_eq}
use Rattle.ntfs_attrlist.specs.Entry.{Listed}
use Rattle.ntfs_base.specs.Frames.{must, ◌>>=◌}
use Rattle.ntfs_base.specs.declared.refusal.Rule.TheVariants as rule
use Rattle.ntfs_record.specs.FileRecord.{Attribute, Face, Head}
use Rattle.ntfs_record.specs.Slots.{Slot}
use Rattle.ntfs_volume.specs.Listing.{RecordListing}
use Rattle.ntfs_volume.specs.Located.{slot_at}
use Rattle.ntfs_volume.specs.References.{belongs, matches, target}
use Rattle.ntfs_volume.specs.declared.fault.VolumeFault.{VolumeFault}
use Rattle.ntfs_volume.specs.declared.fault.VolumeFault.TheVariants as volume

-- what the attribute list of the record of each number says; the word is ours
abbrev pub Lists : Type 0
Lists = ℕ → RecordListing

-- what tells an attribute from others of its record (the Linux-NTFS documentation, "$ATTRIBUTE_LIST")
pub record Id : Type 0 where
  pub kind : ℕ
  pub name : List ℕ
  pub lowest : ℕ
  pub instance : ℕ

abbrev pub id_of : Face → Id
id_of face = record { kind = face.kind; name = face.name; lowest = face.lowest; instance = face.instance }

-- the attribute is of this type and name
unfoldable pub is_of : ℕ → List ℕ → Id → Bool
is_of kind name id = (id.kind == kind) && bytes_eq id.name name

-- the attribute is the one that an entry of a list names
unfoldable pub means : Listed → Id → Bool
means entry id =
    is_of entry.kind entry.name id && ((id.lowest == entry.lowest) && (id.instance == entry.instance))

-- the entry names an attribute of this type and name
abbrev pub lists : ℕ → List ℕ → Listed → Bool
lists kind name entry = (entry.kind == kind) && bytes_eq entry.name name

-- an attribute that holds a part of a stream, with the number and the head of the record in which it stands
pub record Extent (P : Type 0) : Type 0 where
  pub number : ℕ
  pub head : Head
  pub attribute : Attribute P

abbrev pub extent_at : {P : Type 0} → ℕ → Head → Attribute P → Extent P
extent_at r h a = record { number = r; head = h; attribute = a }

-- the attribute list of record r is wrong
abbrev pub bad_list : ℕ → VolumeFault
bad_list r = volume.Damaged rule.C11 r

-- something is wrong with record r, which is in use
abbrev pub bad_record : ℕ → VolumeFault
bad_record r = volume.Damaged rule.C4 r

-- ---- with a list

-- the record that a reference names is the one that is meant, and a part of the file of base record r, of this sequence
-- number
unfoldable pub is_member : ℕ → ℕ → ℕ → Head → Bool
is_member r sequence reference head =
    matches reference (target reference) head.sequence && belongs (target reference) head.base r sequence

-- the extent that an entry of the list of base record r names: its record is in use, sound, and a part of the file, and
-- has such an attribute, of which the first counts
unfoldable pub found_in : {P : Type 0} → ℕ → ℕ → Listed → Slot P → Result (Extent P) VolumeFault
found_in r sequence entry slot = do
  _ ← must slot.is_live (bad_list r)
  _ ← must slot.is_sound (bad_record (target entry.reference))
  _ ← must (is_member r sequence entry.reference slot.head) (bad_list r)
  a ← ok_or (find (λ (a : Attribute _). means entry (id_of a.face)) slot.attributes) (bad_list r)
  Ok (extent_at (target entry.reference) slot.head a)

-- the extents that entries name, in their order, or the fault of the first that fails
unfoldable pub all_found : {P : Type 0} → ℕ → ℕ → List (Slot P) → List Listed → Result (List (Extent P)) VolumeFault
all_found r sequence slots [] = Ok []
all_found r sequence slots (entry ∷ entries) = do
  extent ← found_in r sequence entry (slot_at slots (target entry.reference))
  extents ← all_found r sequence slots entries
  Ok (extent ∷ extents)

-- the extents that the list of record r names
unfoldable pub listed_extents : {P : Type 0} → ℕ → ℕ → List ℕ → RecordListing → ℕ → List (Slot P)
    → Result (List (Extent P)) VolumeFault
listed_extents r kind name listing sequence slots = do
  _ ← must listing.is_good (bad_list r)
  all_found r sequence slots (filter (lists kind name) listing.entries)

-- ---- with or without one

-- the record's own attributes of this type and name
unfoldable pub own_extents : {P : Type 0} → ℕ → ℕ → List ℕ → Slot P → List (Extent P)
own_extents r kind name base =
    map (extent_at r base.head) (filter (λ (a : Attribute _). is_of kind name (id_of a.face)) base.attributes)

-- the extents of a base record that says this
unfoldable pub extents_in : {P : Type 0} → ℕ → ℕ → List ℕ → RecordListing → Slot P → List (Slot P)
    → Result (List (Extent P)) VolumeFault
extents_in r kind name listing base slots =
    if listing.is_there then listed_extents r kind name listing base.head.sequence slots
    else Ok (own_extents r kind name base)

-- the extents of that type and name of the file of record r, which is absent where it isn't in use or no base record
unfoldable pub extents : {P : Type 0} → Lists → List (Slot P) → ℕ → ℕ → List ℕ
    → Result (List (Extent P)) VolumeFault
extents listings slots r kind name = do
  _ ← must (slot_at slots r).is_live volume.Absent
  _ ← must (slot_at slots r).is_sound (bad_record r)
  _ ← must ((slot_at slots r).head.base == 0) volume.Absent
  extents_in r kind name (listings r) (slot_at slots r) slots

-- ---- maps

-- a map keeps what tells attributes from one another
abbrev pub KeepsIds : {P Q : Type 0} → (ℕ → Head → Attribute P → Attribute Q) → Type 0
KeepsIds f = (r : ℕ) (h : Head) (a : Attribute _) → id_of (f r h a).face ≡ id_of a.face

-- the extent with its attribute mapped
abbrev pub mapped : {P Q : Type 0} → (ℕ → Head → Attribute P → Attribute Q) → Extent P → Extent Q
mapped f e = record { number = e.number; head = e.head; attribute = f e.number e.head e.attribute }
