-- The clone image of a volume, as a save writes it: the header, then each owned cluster with its bytes, each longest
-- row of others as one gap, and the tail, which holds the backup boot sector. The words are ours.
use Rattle.std.specs.Prelude.{◌≡◌, ◌≤◌, ◌<◌, ◌+◌, ◌-◌, ◌*◌, ◌^◌, ℕ, zero, suc, Bool, true, List, [], ◌∷◌, ◌++◌, drop, length, replicate, take, if◌then◌else◌}
use Rattle.byteorder.specs.Endian.{little_bytes}
use Rattle.ntfs_base.specs.Bytes.{cluster_at}
use Rattle.ntfs_base.specs.Growth.{resize_of}
use Rattle.ntfs_bitmap.specs.ClusterSet.{Clusters, has}
use Rattle.ntfs_boot.specs.declared.geometry.Geometry.{Geometry}
use Rattle.ntfs_clone.specs.declared.header.CloneHeader.{CloneHeader}
use Rattle.ntfs_clone.specs.Header.{clone_magic, clone_version, is_clone_cluster}
use Rattle.ntfs_clone.specs.Commands.{Command, gap, cluster, commands_bytes}

-- a volume to be saved: the sizes in bytes of a cluster and of the device, the number of clusters, which of them are
-- owned, and the bytes of the image
pub record Volume : Type 0 where
  pub cluster : ℕ
  pub clusters : ℕ
  pub device : ℕ
  pub owned : ℕ → Bool
  pub image : List ℕ

-- the ranges of a volume that can be saved: those of a header, and an image that has all clusters
pub record IsVolume (v : Volume) : Type 0 where
  pub cluster : is_clone_cluster v.cluster ≡ true
  pub device : v.device ≤ 2 ^ 62
  pub held : v.clusters * v.cluster ≤ v.device
  pub some_clusters : 0 < v.clusters
  pub most_clusters : v.clusters < 2 ^ 32
  pub bytes : v.clusters * v.cluster ≤ length v.image

-- the bytes of a device that holds all sectors and behind them one more, the backup boot sector
abbrev pub device_of : Geometry → ℕ
device_of g = (g.sectors + 1) * g.sector

-- the volume of an image with this geometry, of which these clusters are owned
abbrev pub volume_of : Geometry → Clusters → List ℕ → Volume
volume_of g owned image = record {
  cluster = g.cluster;
  clusters = g.clusters;
  device = device_of g;
  owned = has owned;
  image = image;
}

-- a cluster that is left out widens the gap behind it
abbrev pub widened : List Command → List Command
widened [] = gap 1 ∷ []
widened (gap count ∷ commands) = gap (count + 1) ∷ commands
widened (cluster bytes ∷ commands) = gap 1 ∷ cluster bytes ∷ commands

-- the commands of so many clusters from one on, before these commands
abbrev pub cluster_commands : Volume → ℕ → ℕ → List Command → List Command
cluster_commands v from zero behind = behind
cluster_commands v from (suc count) behind =
    if v.owned from then cluster (cluster_at v.image v.cluster from) ∷ cluster_commands v (from + 1) count behind
    else widened (cluster_commands v (from + 1) count behind)

-- what stands behind all clusters up to the end of the device, as one cluster: with zeros where the image ends early
abbrev pub clone_tail : Volume → List ℕ
clone_tail v = resize_of v.cluster (take (v.device - v.clusters * v.cluster) (drop (v.clusters * v.cluster) v.image))

abbrev pub saved_commands : Volume → List Command
saved_commands v = cluster_commands v 0 v.clusters (cluster (clone_tail v) ∷ [])

-- how many of so many clusters from one on are owned
abbrev pub owned_count : (ℕ → Bool) → ℕ → ℕ → ℕ
owned_count owned from zero = 0
owned_count owned from (suc count) = (if owned from then 1 else 0) + owned_count owned (from + 1) count

unfoldable pub saved_header : Volume → CloneHeader
saved_header v = record {
  cluster = v.cluster;
  device = v.device;
  clusters = v.clusters;
  in_use = owned_count v.owned 0 v.clusters;
  offset = 56;
}

-- the bytes of a header whose commands begin at 56
unfoldable pub clone_header_bytes : CloneHeader → List ℕ
clone_header_bytes h =
    clone_magic ++ (clone_version ++ (little_bytes 4 h.cluster ++ (little_bytes 8 h.device ++ (little_bytes 8 h.clusters
    ++ (little_bytes 8 h.in_use ++ (little_bytes 4 h.offset ++ replicate 6 0))))))

unfoldable pub clone_of : Volume → List ℕ
clone_of v = clone_header_bytes (saved_header v) ++ commands_bytes (saved_commands v)
