-- An opened volume: its geometry and $MFT's map. The word is ours.
use Rattle.std.specs.Prelude.{Bool, ◌&&◌, ◌≡◌, ◌≤◌, ℕ, List, true, false, length, Result, Ok}
use Rattle.ntfs_base.specs.Bytes.{cluster_at}
use Rattle.ntfs_base.specs.Frames.{refused_as, ◌>>=◌}
use Rattle.ntfs_boot.specs.Geometry.{IsGood, bytes_of_clusters, volume_geometry}
use Rattle.ntfs_boot.specs.declared.geometry.Geometry.{Geometry}
use Rattle.ntfs_runs.specs.Cells.{are_cells}
use Rattle.ntfs_runs.specs.Clusters.{AreWithin, vcns}
use Rattle.ntfs_runs.specs.declared.run.Run.{Run}
use Rattle.ntfs_volume.specs.Fault.{volume_fault}
use Rattle.ntfs_volume.specs.MftMap.{Map, is_table, mft_map}
use Rattle.ntfs_volume.specs.StreamBytes.{clusters_in}
use Rattle.ntfs_volume.specs.declared.fault.VolumeFault.{VolumeFault}

-- what is kept of a volume
pub record Opened : Type 0 where
  pub geometry : Geometry
  pub map : Map

-- what an image gives that is opened
unfoldable pub opened_of : List ℕ → Result Opened VolumeFault
opened_of image = do
  g ← refused_as volume_fault (volume_geometry image)
  map ← mft_map g (cluster_at image g.cluster)
  Ok (record { geometry = g; map = map })

-- ---- what is known of a kept table, whatever the image holds by now

-- runs without holes, whose clusters are below n
pub record AreTableRuns (n : ℕ) (runs : List Run) : Type 0 where
  pub cells : are_cells false n (vcns runs) ≡ true
  pub within : AreWithin runs

-- a good geometry and a map that can be followed on it
pub record IsTable (g : Geometry) (runs : List Run) (size valid : ℕ) : Type 0 where
  pub good : IsGood g
  pub table : AreTableRuns g.clusters runs
  pub fits : is_table g (length (vcns runs)) size valid ≡ true

-- runs that a map may have on a good geometry, and sizes that fit them
abbrev pub fits_table : Geometry → List Run → ℕ → ℕ → Bool
fits_table g runs size valid = are_cells false g.clusters (vcns runs) && is_table g (length (vcns runs)) size valid

-- the geometry and the map that these tell
abbrev pub opened_by : Geometry → List Run → ℕ → ℕ → Opened
opened_by g runs size valid = record {
  geometry = g;
  map = record { clusters = clusters_in (vcns runs); size = size; valid = valid };
}

-- an image of this length has the clusters of what is kept
abbrev pub HasClusters : ℕ → Opened → Type 0
HasClusters size opened = bytes_of_clusters opened.geometry ≤ size
