-- The records of a volume one after another, as they stand on disk. The words are ours.
use Rattle.std.specs.Prelude.{◌≡◌, ◌≤◌, ◌<◌, ◌+◌, ◌-◌, ◌*◌, ◌/◌, ℕ, List, length, min, take}
use Rattle.ntfs_base.specs.Bytes.{raw_of}
use Rattle.ntfs_boot.specs.declared.geometry.Geometry.{Geometry}
use Rattle.ntfs_runs.specs.Clusters.{vcns}
use Rattle.ntfs_runs.specs.declared.run.Run.{Run}
use Rattle.ntfs_volume.specs.MftMap.{Map}
use Rattle.ntfs_volume.specs.Opened.{AreTableRuns, Opened}
use Rattle.ntfs_volume.specs.Records.{raw_record}
use Rattle.ntfs_volume.specs.StreamBytes.{clusters_in}
use Rattle.ntfs_volume.specs.declared.scan.Cursor.{Cursor}

-- a scan of an opened volume: the number of the record that comes next
pub record Scanning : Type 0 where
  pub table : Opened
  pub next : ℕ

-- the scan of a volume at a record
abbrev pub scan_at : Opened → ℕ → Scanning
scan_at table r = record { table = table; next = r }

-- how many records lie wholly in the initialised part of $MFT
abbrev pub initialised_count : Geometry → Map → ℕ
initialised_count g map = map.valid / g.record_size

-- how many of the records that come next a buffer of so many bytes takes
abbrev pub taken_count : Scanning → ℕ → ℕ
taken_count s room =
    min (room / s.table.geometry.record_size) (initialised_count s.table.geometry s.table.map - s.next)

-- so many records from a number on stand in these bytes as they stand on disk, one behind the other, where f gives the
-- bytes of each cluster
abbrev pub HoldRecords : Geometry → Map → (ℕ → List ℕ) → ℕ → ℕ → List ℕ → Type 0
HoldRecords g map f r count bytes =
    (i : ℕ) → i < count → raw_of g.record_size bytes i ≡ raw_record g map f (r + i)

-- ---- where a scan stands

-- the cursor is at a run of these, or behind the last: it begins behind the bytes of those before it
pub record IsCursor (c : ℕ) (runs : List Run) (cursor : Cursor) : Type 0 where
  pub index : cursor.index ≤ length runs
  pub begins : cursor.begins ≡ length (vcns (take cursor.index runs)) * c

-- and this place lies in the bytes of that run, or at their end
pub record StandsAt (c : ℕ) (runs : List Run) (place : ℕ) (cursor : Cursor) : Type 0 where
  pub run : IsCursor c runs cursor
  pub above : cursor.begins ≤ place
  pub below : place ≤ length (vcns (take (cursor.index + 1) runs)) * c

-- a scan has the runs of its volume, and a cursor that lies at the next record or before it
pub record IsScan (volume : Opened) (runs : List Run) (at : Cursor) (next : ℕ) : Type 0 where
  pub table : AreTableRuns volume.geometry.clusters runs
  pub clusters : clusters_in (vcns runs) ≡ volume.map.clusters
  pub room : volume.map.valid ≤ length (vcns runs) * volume.geometry.cluster
  pub cursor : IsCursor volume.geometry.cluster runs at
  pub above : at.begins ≤ next * volume.geometry.record_size
  pub there : next ≤ initialised_count volume.geometry volume.map
