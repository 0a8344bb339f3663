-- What is asked of each record in use, as the code asks it. The words are ours.
use Rattle.std.specs.Prelude.{◌≡◌, ℕ, Bool, List, None}
use Rattle.std.specs.List.{list_all}
use Rattle.ntfs_check_records.specs.Asked.{RecordTest}
use Rattle.ntfs_check_records.specs.Reading.{records_of}
use Rattle.ntfs_record.specs.FileRecord.{Laid}
use Rattle.ntfs_record.specs.Slots.{Slot, map_laid, map_slot, on_payload}
use Rattle.ntfs_rules.specs.Files.{c11, ids_of, is_in_stream}
use Rattle.ntfs_rules.specs.Records.{c4, c7, of_base}
use Rattle.ntfs_rules.specs.VolumeData.{VolumeData, listings, numbers, volume_data}
use Rattle.ntfs_runs.specs.Cells.{Cells, cells_below}
use Rattle.ntfs_volume.specs.Gather.{Lists}
use Rattle.ntfs_volume.specs.Located.{Located, map_located, with_cells}
use Rattle.ntfs_volume.specs.Opened.{Opened}
use Rattle.ntfs_volume.specs.Streams.{lists_of}

-- the records of an opened volume with cells, where f gives the bytes of each cluster
abbrev pub clusters_read : Opened → (ℕ → List ℕ) → List (Slot (Located (Laid (Cells ℕ))))
clusters_read o f = with_cells o.geometry.clusters (records_of o f)

-- one with cells, on a volume of n clusters
abbrev pub celled : ℕ → Slot (Located (Laid (List ℕ))) → Slot (Located (Laid (Cells ℕ)))
celled n s = map_slot (on_payload (map_located (map_laid (cells_below n))) 0) s

-- what the lists of the records say
abbrev pub lists_in : Opened → (ℕ → List ℕ) → Lists
lists_in o f = lists_of o.geometry f (records_of o f)

-- what rule C12 presumes
pub record KeepsEleven (v : VolumeData) : Type 0 where
  pub whole : c4 v.slots ≡ None
  pub cells : c7 (numbers v) ≡ None
  pub listed : c11 (listings v) v.slots ≡ None

-- rule C12 of record r
unfoldable pub keeps_rule : Opened → (ℕ → List ℕ) → ℕ → Slot (Located (Laid (Cells ℕ))) → Bool
keeps_rule o f r s =
    of_base s
    (list_all (is_in_stream o.geometry.cluster (lists_in o f) (clusters_read o f) r s)
    (ids_of (clusters_read o f) r s))

-- what a record in use answers
abbrev pub stream_answer : Opened → (ℕ → List ℕ) → RecordTest
stream_answer o f r s = keeps_rule o f r (celled o.geometry.clusters s)
