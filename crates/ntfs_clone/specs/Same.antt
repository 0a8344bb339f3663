-- When two images are one volume, and when one of them is what a clone of the other restores. The words are ours.
use Rattle.std.specs.Prelude.{◌≡◌, ◌≤◌, ◌<◌, ℕ, List, length, replicate, slice_index, Ok}
use Rattle.ntfs_base.specs.Bytes.{cluster_at}
use Rattle.ntfs_boot.specs.Geometry.{bytes_of_clusters}
use Rattle.ntfs_check_clusters.specs.Outcome.{claimed_set}
use Rattle.ntfs_clone.specs.CloneOf.{Volume, device_of, volume_of}
use Rattle.ntfs_meaning.specs.Meaning.{meaning}
use Rattle.ntfs_rules.specs.Accepts.{Accepts, claims_in}
use Rattle.ntfs_rules.specs.Clusters.{times}
use Rattle.ntfs_rules.specs.Laws.{HasOwner, data_in}
use Rattle.ntfs_rules.specs.VolumeData.{VolumeData}
use Rattle.ntfs_volume.specs.Opened.{Opened, opened_of}

-- the volume of an image that opens so, with the clusters that its records own: what is saved of an accepted image
abbrev pub owned_volume : List ℕ → Opened → Volume
owned_volume image o = volume_of o.geometry (claimed_set o.geometry.clusters (claims_in (data_in image o))) image

-- no record of the volume owns the cluster
abbrev pub HasNoOwner : VolumeData → ℕ → Type 0
HasNoOwner v k = times k (claims_in v) ≡ 0

-- another image opens as the same volume, of the same geometry, and is accepted; its records say the same, own the same
-- clusters, and mean the same
pub record IsOneVolume (image other : List ℕ) (o : Opened) : Type 0 where
  pub opened : opened_of other ≡ Ok o
  pub accepted : Accepts other
  pub says : data_in other o ≡ data_in image o
  pub claims : claims_in (data_in other o) ≡ claims_in (data_in image o)
  pub meaning : meaning (data_in other o) ≡ meaning (data_in image o)

-- another image is what a clone of this one restores: one volume with it, and nothing else
pub record IsSameVolume (image other : List ℕ) (o : Opened) : Type 0 where
  -- it is as long as the device, all sectors and the backup boot sector
  pub size : length other ≡ device_of o.geometry
  pub volume : IsOneVolume image other o
  -- a cluster that a record owns has the image's bytes
  pub owned : (k : ℕ) → HasOwner (data_in image o) k
      → cluster_at other o.geometry.cluster k ≡ cluster_at image o.geometry.cluster k
  -- behind all clusters each byte up to the device's end is the image's, and 0 past the image's end
  pub tail : (i : ℕ) → bytes_of_clusters o.geometry ≤ i → i < device_of o.geometry
      → slice_index other i ≡ slice_index image i
  -- a cluster that nobody owns has zeros
  pub free : (k : ℕ) → k < o.geometry.clusters → HasNoOwner (data_in image o) k
      → cluster_at other o.geometry.cluster k ≡ replicate o.geometry.cluster 0
