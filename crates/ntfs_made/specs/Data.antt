-- A made volume as finite data: what it is opened as, with the records and clusters that its bytes give. The words are
-- ours.
use Rattle.std.specs.Prelude.{◌==◌, ◌||◌, ℕ, Bool, List, map}
use Rattle.ntfs_base.specs.Bytes.{cluster_at}
use Rattle.ntfs_record.specs.FileRecord.{Laid}
use Rattle.ntfs_record.specs.Slots.{Slot}
use Rattle.ntfs_volume.specs.Located.{Located}
use Rattle.ntfs_rules.specs.VolumeData.{VolumeData, volume_data}
use Rattle.ntfs_make.specs.declared.shape.Shape.{Shape}
use Rattle.ntfs_make.specs.Areas.{areas_of}
use Rattle.ntfs_make.specs.Rows.{rows}
use Rattle.ntfs_make.specs.Shape.{bad_cluster}
use Rattle.ntfs_make.specs.Streams.{has_area}
use Rattle.ntfs_make.specs.Volume.{volume_bytes_of}
use Rattle.ntfs_made_map.specs.Opened.{made_opened}
use Rattle.ntfs_made_records.specs.Made.{made_slot}

-- the bytes of a cluster of the made volume
abbrev pub made_cluster : Shape → ℕ → List ℕ
made_cluster shape k = cluster_at (volume_bytes_of shape.seed shape.clusters shape.cluster) shape.cluster k

-- the made volume, opened
abbrev pub made_data : Shape → VolumeData
made_data shape = volume_data (made_opened shape) (made_cluster shape)

-- the records of the generator's table
abbrev pub made_slots : Shape → List (Slot (Located (Laid (List ℕ))))
made_slots shape = map (made_slot shape) rows

-- a cluster has an owner: it is one of an area's, or the bad one
abbrev pub has_owner : Shape → ℕ → Bool
has_owner shape k = has_area (areas_of shape) k || k == bad_cluster shape.clusters
