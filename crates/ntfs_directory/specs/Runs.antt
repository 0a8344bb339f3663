-- Runs that can be read. The words are ours.
use Rattle.std.specs.Prelude.{◌≡◌, ◌≤◌, ◌<◌, ◌^◌, ℕ, List, true, length}
use Rattle.ntfs_base.specs.Bytes.{cluster_at}
use Rattle.ntfs_boot.specs.Geometry.{bytes_of_clusters}
use Rattle.ntfs_boot.specs.declared.geometry.Geometry.{Geometry}
use Rattle.ntfs_directory.specs.declared.runs.Placed.{Placed}
use Rattle.ntfs_runs.specs.Cells.{are_cells, map_cells}
use Rattle.ntfs_runs.specs.Clusters.{AreWithin, vcns}
use Rattle.ntfs_volume.specs.StreamBytes.{have_room, runs_bytes}

-- runs and sizes can be read in an image of this length, on a volume of this geometry
pub record CanReadRuns (size : ℕ) (g : Geometry) (p : Placed) : Type 0 where
  pub least : 512 ≤ g.cluster
  pub most : g.cluster ≤ 65536
  pub few : g.clusters < 2 ^ 32
  pub held : bytes_of_clusters g ≤ size
  pub within : AreWithin p.runs.now
  pub cells : are_cells true g.clusters (vcns p.runs.now) ≡ true
  pub room : have_room g.cluster (length (vcns p.runs.now)) p.size p.valid ≡ true

-- their bytes, in an image of this geometry
abbrev pub placed_bytes : Geometry → List ℕ → Placed → List ℕ
placed_bytes g image p = runs_bytes g.cluster p.size p.valid (map_cells (cluster_at image g.cluster) (vcns p.runs.now))
