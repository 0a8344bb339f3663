-- The list of record 0 as its views show it. The words are ours.
use Rattle.std.specs.Prelude.{◌≤◌, ◌*◌, ◌==◌, ◌&&◌, ℕ, Bool, List, length, nat_le, Option, Result, Ok}
use Rattle.ntfs_base.specs.Frames.{must, ◌>>=◌}
use Rattle.ntfs_boot.specs.declared.geometry.Geometry.{Geometry}
use Rattle.ntfs_record.specs.FileRecord.{Attribute, FileRecord, Laid, attributes_of}
use Rattle.ntfs_record.specs.Views.{ShownBody}
use Rattle.ntfs_runs.specs.Cells.{cells_below}
use Rattle.ntfs_runs.specs.Clusters.{vcns}
use Rattle.ntfs_runs.specs.declared.run.Run.{Run}
use Rattle.ntfs_volume.specs.Listing.{filled_attribute, filled_attributes, bytes_of_list, most_list}
use Rattle.ntfs_volume.specs.MftMap.{no_map}
use Rattle.ntfs_volume.specs.StreamBytes.{have_room}
use Rattle.ntfs_volume.specs.declared.fault.VolumeFault.{VolumeFault}

-- a list that shows this isn't resident, and can be read
abbrev pub is_shown_readable : Geometry → ShownBody → Bool
is_shown_readable g b =
    (b.lowest == 0)
    && (((cells_below g.clusters b.pairs).is_right && (length (cells_below g.clusters b.pairs).cells == b.next))
    && (nat_le b.size most_list && have_room g.cluster (length (cells_below g.clusters b.pairs).cells) b.size b.valid))

-- the cells of such a list
unfoldable pub readable_cells : Geometry → ShownBody → Result (List (Option ℕ)) VolumeFault
readable_cells g b = do
  _ ← must (is_shown_readable g b) (no_map 0)
  Ok (cells_below g.clusters b.pairs).cells

-- the bytes of a list of a record, of which f gives those of each cluster
abbrev pub list_bytes_of : Geometry → (ℕ → List ℕ) → Attribute (Laid (List ℕ)) → FileRecord → Option (List ℕ)
list_bytes_of g f a said =
    bytes_of_list g.cluster (filled_attribute g.clusters f a) (filled_attributes g.clusters f (attributes_of said))

-- runs with room for a list of these sizes
pub record FitsList (g : Geometry) (body : ShownBody) (runs : List Run) : Type 0 where
  pub room : body.size ≤ length (vcns runs) * g.cluster
  pub valid : body.valid ≤ body.size
  pub most : body.size ≤ most_list
