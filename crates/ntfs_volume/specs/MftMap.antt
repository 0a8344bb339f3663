-- $MFT's map: where the clusters of the table of records lie (the Linux-NTFS documentation, "$MFT" and
-- "$ATTRIBUTE_LIST"; the limits are ours). It begins with the record 0 that stands at the boot sector's cluster, and
-- goes on by the entries of that record's attribute list, each of which names a record in the part that is known by
-- then.
use Rattle.std.specs.Prelude.{◌/◌, ◌^◌, ◌==◌, ◌&&◌, not, ℕ, Bool, false, List, [], ◌∷◌, ◌++◌, length, take, filter, find, Option, Some, None, Result, Ok, nat_le, nat_lt, if◌then◌else◌}
use Rattle.std.specs.Option.{ok_or}
use Rattle.ntfs_attrlist.specs.Entry.{Listed}
use Rattle.ntfs_base.specs.Bytes.{clusters_for, stream, raw_of}
use Rattle.ntfs_base.specs.Frames.{must, ◌>>=◌}
use Rattle.ntfs_base.specs.declared.refusal.Rule.TheVariants as rule
use Rattle.ntfs_boot.specs.declared.geometry.Geometry.{Geometry}
use Rattle.ntfs_record.specs.FileRecord.{Attribute, Face, FileRecord, attributes_of}
use Rattle.ntfs_record.specs.Slots.{is_in_use, record_in}
use Rattle.ntfs_runs.specs.Cells.{are_cells, cells_of}
use Rattle.ntfs_runs.specs.Clusters.{row}
use Rattle.ntfs_volume.specs.Listing.{RecordListing, filled_attributes, listing_in}
use Rattle.ntfs_volume.specs.References.{has_base, target}
use Rattle.ntfs_volume.specs.StreamBytes.{clusters_in, have_room}
use Rattle.ntfs_volume.specs.declared.fault.VolumeFault.{VolumeFault}
use Rattle.ntfs_volume.specs.declared.fault.VolumeFault.TheVariants as volume

-- the clusters of $MFT in their order, its size and its initialised size; the word is ours
pub record Map : Type 0 where
  pub clusters : List ℕ
  pub size : ℕ
  pub valid : ℕ

-- there is no map, by what stands in this record
abbrev pub no_map : ℕ → VolumeFault
no_map r = volume.Damaged rule.C3 r

-- from 12 to 2^32 - 1 records; the limits are ours
unfoldable pub is_record_count : ℕ → Bool
is_record_count n = nat_le 12 n && nat_lt n (2 ^ 32)

-- what the bytes of a record as they stand on disk say, where it is in use and nothing is wrong with it
unfoldable pub live_record : List ℕ → Option FileRecord
live_record raw = if is_in_use raw then record_in raw else None

-- ---- extents of $MFT

-- the attribute is unnamed data
abbrev pub is_data : ℕ → List ℕ → Bool
is_data kind name = (kind == 0x80) && (length name == 0)

-- the first extent of $MFT
abbrev pub begins_table : Face → Bool
begins_table face = is_data face.kind face.name && (not face.is_resident && (face.lowest == 0))

-- the attribute that an entry names, of those of its record
abbrev pub is_named : Listed → Face → Bool
is_named entry face =
    is_data face.kind face.name && ((face.lowest == entry.lowest) && (face.instance == entry.instance))

-- the clusters of mapping pairs that stand in record r: they are right, without holes and below the number of clusters
unfoldable pub table_clusters : ℕ → ℕ → List ℕ → Result (List ℕ) VolumeFault
table_clusters clusters r pairs = do
  _ ← must ((cells_of pairs).is_right && are_cells false clusters (cells_of pairs).cells) (no_map r)
  Ok (clusters_in (cells_of pairs).cells)

-- an entry that tells of a further extent: one of unnamed data, and not the one with which the map begins
abbrev pub is_further : Listed → Bool
is_further entry = is_data entry.kind entry.name && not ((target entry.reference == 0) && (entry.lowest == 0))

-- the record of a number in the initialised part of the clusters known so far, as an extension record of record 0
unfoldable pub extension_of : Geometry → (ℕ → List ℕ) → ℕ → FileRecord → List ℕ → ℕ → Result FileRecord VolumeFault
extension_of g f valid first known r = do
  raw ← ok_or (raw_of g.record_size (take valid (stream f known)) r) (no_map 0)
  extension ← ok_or (live_record raw) (no_map 0)
  _ ← must (has_base extension.head.base 0 first.head.sequence) (no_map 0)
  Ok extension

-- the record in which an entry's extent stands: record 0 as it was read first, or an extension record
abbrev pub holder_of : Geometry → (ℕ → List ℕ) → ℕ → FileRecord → List ℕ → ℕ → Result FileRecord VolumeFault
holder_of g f valid first known r = if r == 0 then Ok first else extension_of g f valid first known r

-- the clusters of the extent of a record that an entry names
unfoldable pub extent_in : ℕ → Listed → FileRecord → Result (List ℕ) VolumeFault
extent_in clusters entry holder = do
  a ← ok_or (find (λ (a : Attribute _). is_named entry a.face) (attributes_of holder)) (no_map 0)
  _ ← must (not a.face.is_resident) (no_map 0)
  table_clusters clusters (target entry.reference) a.payload.runs

-- the clusters of the extent of an entry, which begins where the known ones end
unfoldable pub extent_of_entry : Geometry → (ℕ → List ℕ) → ℕ → FileRecord → List ℕ → Listed
    → Result (List ℕ) VolumeFault
extent_of_entry g f valid first known entry = do
  _ ← must (entry.lowest == length known) (no_map 0)
  holder ← holder_of g f valid first known (target entry.reference)
  extent_in g.clusters entry holder

-- the clusters of all extents, from the known ones on
unfoldable pub further : Geometry → (ℕ → List ℕ) → ℕ → FileRecord → List ℕ → List Listed → Result (List ℕ) VolumeFault
further g f valid first known [] = Ok known
further g f valid first known (entry ∷ entries) = do
  more ← extent_of_entry g f valid first known entry
  further g f valid first (known ++ more) entries

-- ---- the map

-- what record 0 says of its attribute list
abbrev pub table_listing : Geometry → (ℕ → List ℕ) → FileRecord → RecordListing
table_listing g f first = listing_in g.cluster (filled_attributes g.clusters f (attributes_of first))

-- the clusters of all extents that a list tells, from those of the first on
unfoldable pub clusters_by : Geometry → (ℕ → List ℕ) → ℕ → FileRecord → List ℕ → RecordListing
    → Result (List ℕ) VolumeFault
clusters_by g f valid first known listing = do
  _ ← must listing.is_good (no_map 0)
  further g f valid first known (filter is_further listing.entries)

-- the clusters of all extents that record 0 tells
unfoldable pub all_clusters : Geometry → (ℕ → List ℕ) → ℕ → FileRecord → List ℕ → Result (List ℕ) VolumeFault
all_clusters g f valid first known = clusters_by g f valid first known (table_listing g f first)

-- clusters of $MFT with room for its size, and a right number of records
unfoldable pub is_table : Geometry → ℕ → ℕ → ℕ → Bool
is_table g count size valid = have_room g.cluster count size valid && is_record_count (size / g.record_size)

-- the map of these clusters and sizes
unfoldable pub map_of : Geometry → List ℕ → ℕ → ℕ → Result Map VolumeFault
map_of g clusters size valid = do
  _ ← must (is_table g (length clusters) size valid) (no_map 0)
  Ok (record { clusters = clusters; size = size; valid = valid })

-- the map that record 0 gives
unfoldable pub map_of_record : Geometry → (ℕ → List ℕ) → FileRecord → Result Map VolumeFault
map_of_record g f first = do
  a ← ok_or (find (λ (a : Attribute _). begins_table a.face) (attributes_of first)) (no_map 0)
  known ← table_clusters g.clusters 0 a.payload.runs
  clusters ← all_clusters g f a.face.valid first known
  map_of g clusters a.face.size a.face.valid

-- the map that the bytes of record 0 give
unfoldable pub map_in : Geometry → (ℕ → List ℕ) → List ℕ → Result Map VolumeFault
map_in g f raw = do
  first ← ok_or (live_record raw) (no_map 0)
  map_of_record g f first

-- the clusters of record 0: those from the boot sector's on, as many as have room for a record
abbrev pub head_clusters : Geometry → List ℕ
head_clusters g = clusters_in (row (clusters_for g.record_size g.cluster) (Some g.mft))

-- the map of a volume of this geometry, of which f gives the bytes of each cluster
unfoldable pub mft_map : Geometry → (ℕ → List ℕ) → Result Map VolumeFault
mft_map g f = map_in g f (take g.record_size (stream f (head_clusters g)))
