-- Streams: the extents of one type and name of a base record, joined (the Linux-NTFS documentation, "Attribute Header"
-- and "Data Runs"; the refusals and their order are ours).
use Rattle.std.specs.Prelude.{◌≡◌, ◌-◌, ◌==◌, ◌&&◌, ◌||◌, not, ℕ, Bool, true, false, List, [], ◌∷◌, ◌++◌, length, map, Option, Result, Ok, Err, if◌then◌else◌}
use Rattle.ntfs_base.specs.Frames.{must, ◌>>=◌}
use Rattle.ntfs_base.specs.declared.refusal.Rule.TheVariants as rule
use Rattle.ntfs_boot.specs.declared.geometry.Geometry.{Geometry}
use Rattle.ntfs_record.specs.FileRecord.{Laid}
use Rattle.ntfs_record.specs.Slots.{Slot}
use Rattle.ntfs_runs.specs.Cells.{Cells, are_cells, map_cells}
use Rattle.ntfs_volume.specs.Gather.{Extent, Lists, extents}
use Rattle.ntfs_volume.specs.Listing.{filled_attributes, listing_in}
use Rattle.ntfs_volume.specs.Located.{Located, slot_at, slots_of, unlocated, with_cells}
use Rattle.ntfs_volume.specs.MftMap.{Map}
use Rattle.ntfs_volume.specs.StreamBytes.{have_room}
use Rattle.ntfs_volume.specs.declared.fault.VolumeFault.{VolumeFault}
use Rattle.ntfs_volume.specs.declared.fault.VolumeFault.TheVariants as volume

-- a stream: its flags, and its value, or its sizes and its cells; a value is as long as its size
pub record Stream (X : Type 0) : Type 0 where
  pub flags : ℕ
  pub is_resident : Bool
  pub value : List ℕ
  pub size : ℕ
  pub valid : ℕ
  pub cells : List (Option X)

-- the stream with something else in place of each cluster
abbrev pub map_stream : {X Y : Type 0} → (X → Y) → Stream X → Stream Y
map_stream f s = record {
  flags = s.flags;
  is_resident = s.is_resident;
  value = s.value;
  size = s.size;
  valid = s.valid;
  cells = map_cells f s.cells;
}

-- a resident stream
abbrev pub value_stream : {X : Type 0} → ℕ → List ℕ → Stream X
value_stream flags value = record {
  flags = flags;
  is_resident = true;
  value = value;
  size = length value;
  valid = length value;
  cells = [];
}

-- a stream that isn't resident
abbrev pub runs_stream : {X : Type 0} → ℕ → ℕ → ℕ → List (Option X) → Stream X
runs_stream flags size valid cells =
    record { flags = flags; is_resident = false; value = []; size = size; valid = valid; cells = cells }

-- a stream as it was gathered: beside it the record of its first extent, the place of that extent there, and how many
-- extents there are
pub record Gathered (X : Type 0) : Type 0 where
  pub stream : Stream X
  pub number : ℕ
  pub place : ℕ
  pub extents : ℕ

-- the same with something else in place of each cluster and of the place
abbrev pub map_gathered : {X Y : Type 0} → (ℕ → ℕ) → (X → Y) → Gathered X → Gathered Y
map_gathered moved f s = record {
  stream = map_stream f s.stream;
  number = s.number;
  place = moved s.place;
  extents = s.extents;
}

-- ---- the parts of a stream

-- what an extent tells as a part of a stream, and where it stands
pub record Part (X : Type 0) : Type 0 where
  pub number : ℕ
  pub place : ℕ
  pub flags : ℕ
  pub is_resident : Bool
  pub value : List ℕ
  pub lowest : ℕ
  pub next : ℕ
  pub size : ℕ
  pub valid : ℕ
  pub runs : Cells X

abbrev pub part_of : {X : Type 0} → Extent (Located (Laid (Cells X))) → Part X
part_of e = record {
  number = e.number;
  place = e.attribute.payload.place;
  flags = e.attribute.face.flags;
  is_resident = e.attribute.face.is_resident;
  value = e.attribute.face.value;
  lowest = e.attribute.face.lowest;
  next = e.attribute.face.next;
  size = e.attribute.face.size;
  valid = e.attribute.face.valid;
  runs = e.attribute.payload.payload.runs;
}

-- the pairs of a part are right, and spell a cell for each of its VCNs; a resident one has none
abbrev pub is_right : {X : Type 0} → Part X → Bool
is_right p = p.is_resident || (p.runs.is_right && (length p.runs.cells == p.next - p.lowest))

-- the pairs of all parts are right, or those in the record of the first part that fails aren't
unfoldable pub all_right : {X : Type 0} → List (Part X) → Result (Unit {0}) VolumeFault
all_right [] = Ok tt
all_right (p ∷ ps) = do
  _ ← must (is_right p) (volume.Damaged rule.C7 p.number)
  all_right ps

-- the parts follow one another, from a VCN on
unfoldable pub join_from : {X : Type 0} → ℕ → List (Part X) → Bool
join_from next [] = true
join_from next (p ∷ ps) = not p.is_resident && ((p.lowest == next) && join_from p.next ps)

-- the cells of all parts
unfoldable pub cells_in : {X : Type 0} → List (Part X) → List (Option X)
cells_in [] = []
cells_in (p ∷ ps) = p.runs.cells ++ cells_in ps

-- what was gathered, by its first part
abbrev pub gathered_at : {X : Type 0} → Part X → ℕ → Stream X → Gathered X
gathered_at first count stream =
    record { stream = stream; number = first.number; place = first.place; extents = count }

-- the stream of parts of which the first isn't resident; the first has its flags and sizes
unfoldable pub stream_of_runs : {X : Type 0} → ℕ → ℕ → Part X → List (Part X) → Result (Gathered X) VolumeFault
stream_of_runs c r first ps = do
  _ ← all_right ps
  _ ← must (join_from 0 ps && have_room c (length (cells_in ps)) first.size first.valid) (volume.Damaged rule.C12 r)
  Ok (gathered_at first (length ps) (runs_stream first.flags first.size first.valid (cells_in ps)))

-- the stream of all parts of base record r, where a cluster has c bytes
unfoldable pub stream_of : {X : Type 0} → ℕ → ℕ → List (Part X) → Result (Gathered X) VolumeFault
stream_of c r [] = Err volume.NoAttribute
stream_of c r (first ∷ ps) =
    if first.is_resident then Ok (gathered_at first (length (first ∷ ps)) (value_stream first.flags first.value))
    else stream_of_runs c r first (first ∷ ps)

-- ---- gathering

-- the stream of that type and name of base record r, where a cluster has c bytes
unfoldable pub gather : {X : Type 0} → ℕ → Lists → List (Slot (Located (Laid (Cells X)))) → ℕ → ℕ → List ℕ
    → Result (Gathered X) VolumeFault
gather c listings slots r kind name = do
  found ← extents listings slots r kind name
  stream_of c r (map part_of found)

-- what the attribute list of each record says, of which f gives the bytes of each cluster
abbrev pub lists_of : Geometry → (ℕ → List ℕ) → List (Slot (Located (Laid (List ℕ)))) → Lists
lists_of g f slots r =
    listing_in g.cluster (filled_attributes g.clusters f (map unlocated (slot_at slots r).attributes))

-- the same of a volume with this map, of which f gives the bytes of each cluster
unfoldable pub gather_of : Geometry → Map → (ℕ → List ℕ) → ℕ → ℕ → List ℕ → Result (Gathered ℕ) VolumeFault
gather_of g map f r kind name =
    gather g.cluster (lists_of g f (slots_of g map f)) (with_cells g.clusters (slots_of g map f)) r kind name

-- a stream that isn't resident can be read on a volume of this geometry: its clusters are below the number of clusters,
-- its size lies within its VCNs' bytes, and its initialised size is at most its size
pub record IsReadable (g : Geometry) (s : Stream ℕ) : Type 0 where
  pub cells : are_cells true g.clusters s.cells ≡ true
  pub room : s.is_resident ≡ false → have_room g.cluster (length s.cells) s.size s.valid ≡ true
