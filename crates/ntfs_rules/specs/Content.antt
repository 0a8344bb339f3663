-- What is read of a volume beside its records: what the runs of a stream show, cluster by cluster, and whether a record
-- has an attribute list. The words are ours.
use Rattle.std.specs.Prelude.{◌≡◌, ◌==◌, ℕ, Bool, List, map, true}
use Rattle.std.specs.List.{list_any}
use Rattle.ntfs_base.specs.Bytes.{cluster_at}
use Rattle.ntfs_boot.specs.Geometry.{IsOpened}
use Rattle.ntfs_boot.specs.declared.geometry.Geometry.{Geometry}
use Rattle.ntfs_record.specs.FileRecord.{FileRecord}
use Rattle.ntfs_record.specs.Views.{Shown, placed_of, shown_placed}
use Rattle.ntfs_runs.specs.Cells.{are_cells, map_cells}
use Rattle.ntfs_runs.specs.Clusters.{AreWithin, vcns}
use Rattle.ntfs_runs.specs.declared.run.Run.{Run}
use Rattle.ntfs_stream.specs.Putting.{shown_cells}

-- runs can be read in an image of this length, on a volume of this geometry
pub record AreReadable (size : ℕ) (g : Geometry) (runs : List Run) : Type 0 where
  pub opened : IsOpened size g
  pub within : AreWithin runs
  pub cells : are_cells true g.clusters (vcns runs) ≡ true

-- what they show, where so many bytes from the first on are initialised
abbrev pub shown_bytes : Geometry → List ℕ → ℕ → List Run → List ℕ
shown_bytes g image valid runs =
    shown_cells g.cluster valid (map_cells (cluster_at image g.cluster) (vcns runs))

-- a record has an attribute list
abbrev pub has_list_attribute : FileRecord → Bool
has_list_attribute file = list_any (λ (s : Shown). s.kind == 0x20) (map shown_placed (placed_of file))
