-- A volume as finite data: what its records say, with each cluster's bytes beside its number, and nothing of the image
-- (the Linux-NTFS documentation, "Concepts"; the form is ours). Each rule looks at the weakest view of it that serves:
-- records alone, clusters by their numbers, or contents wherever they lie.
use Rattle.std.specs.Prelude.{ℕ, List, [], take, map, Result, Ok, Err}
use Rattle.ntfs_base.specs.Bytes.{Cluster, fill_cluster, join_clusters}
use Rattle.ntfs_boot.specs.declared.geometry.Geometry.{Geometry}
use Rattle.ntfs_record.specs.FileRecord.{Laid}
use Rattle.ntfs_record.specs.Slots.{Slot}
use Rattle.ntfs_runs.specs.Cells.{Cells}
use Rattle.ntfs_stream.specs.StreamBytes.{bytes_of_stream}
use Rattle.ntfs_volume.specs.Gather.{Lists}
use Rattle.ntfs_volume.specs.Laws.{in_slots}
use Rattle.ntfs_volume.specs.Listing.{listing_in}
use Rattle.ntfs_volume.specs.Located.{Located, slot_at, slots_of, unlocated, with_cells}
use Rattle.ntfs_volume.specs.Opened.{Opened}
use Rattle.ntfs_volume.specs.Streams.{Gathered, gather, map_gathered}
use Rattle.ntfs_volume.specs.declared.fault.VolumeFault.{VolumeFault}

-- the records of a volume by their number, where X stands for a cluster
abbrev pub Records : Type 0 → Type 0
Records X = List (Slot (Located (Laid (Cells X))))

-- a volume: its geometry, the clusters of $MFT by its map with its size and initialised size, and its records
pub record VolumeData : Type 0 where
  pub geometry : Geometry
  pub table : List Cluster
  pub size : ℕ
  pub valid : ℕ
  pub slots : Records Cluster

-- an opened volume, where f gives the bytes of each cluster: here alone an image is read
unfoldable pub volume_data : Opened → (ℕ → List ℕ) → VolumeData
volume_data o f = record {
  geometry = o.geometry;
  table = map (fill_cluster f) o.map.clusters;
  size = o.map.size;
  valid = o.map.valid;
  slots = in_slots (λ place. place) (fill_cluster f) (with_cells o.geometry.clusters (slots_of o.geometry o.map f));
}

-- ---- views of the records

-- clusters by their numbers alone
abbrev pub numbers : VolumeData → Records ℕ
numbers v = in_slots (λ place. place) (λ (k : Cluster). k.number) v.slots

-- clusters by their bytes alone, and no attribute's place: contents, wherever they lie
abbrev pub contents : VolumeData → Records (List ℕ)
contents v = in_slots (λ place. 0) (λ (k : Cluster). k.bytes) v.slots

-- what the attribute list of each record says, by these contents, where a cluster has c bytes
abbrev pub listings_of : ℕ → Records (List ℕ) → Lists
listings_of c slots r = listing_in c (map unlocated (slot_at slots r).attributes)

-- the same of a volume
abbrev pub listings : VolumeData → Lists
listings v = listings_of v.geometry.cluster (contents v)

-- ---- streams

-- the stream of a type and name of a base record, by its clusters' numbers
abbrev pub stream_in : VolumeData → ℕ → ℕ → List ℕ → Result (Gathered ℕ) VolumeFault
stream_in v r kind name = gather v.geometry.cluster (listings v) (numbers v) r kind name

-- the same by its clusters' bytes
abbrev pub content_in : VolumeData → ℕ → ℕ → List ℕ → Result (Gathered (List ℕ)) VolumeFault
content_in v r kind name = gather v.geometry.cluster (listings v) (contents v) r kind name

-- the bytes of a stream that was gathered, where a cluster has c bytes; of one that wasn't there are none
abbrev pub bytes_found : ℕ → Result (Gathered (List ℕ)) VolumeFault → List ℕ
bytes_found c (Ok found) = bytes_of_stream c found.stream
bytes_found c (Err fault) = []

-- a stream that was gathered, with nothing told of its clusters but which are holes
abbrev pub without_clusters : {X : Type 0} → Result (Gathered X) VolumeFault → Result (Gathered ℕ) VolumeFault
without_clusters (Ok found) = Ok (map_gathered (λ place. 0) (λ cluster. 0) found)
without_clusters (Err fault) = Err fault

-- the initialised bytes of $MFT
abbrev pub table_bytes : VolumeData → List ℕ
table_bytes v = take v.valid (join_clusters v.table)
