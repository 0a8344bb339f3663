-- The runs and sizes of extents on the volume. The words are ours.
use Rattle.std.specs.Prelude.{◌+◌, ◌-◌, ◌*◌, ◌==◌, ℕ, List, [], ◌∷◌, map, flat_map, Some, None, sum_by, if◌then◌else◌}
use Rattle.ntfs_runs.specs.declared.run.Run.{Run}
use Rattle.ntfs_runs.specs.Clusters.{vcns}
use Rattle.ntfs_runs.specs.Canon.{canon}
use Rattle.ntfs_make.specs.declared.shape.Shape.{Shape}
use Rattle.ntfs_make.specs.declared.table.PlannedRun.{PlannedRun}
use Rattle.ntfs_make.specs.declared.table.PlannedRun.TheVariants.{NoRun, InArea, Holes, BeforeBad, Bad, BehindBad}
use Rattle.ntfs_make.specs.declared.table.Extent.{Extent}
use Rattle.ntfs_make.specs.declared.table.Size.{Size}
use Rattle.ntfs_make.specs.declared.table.Size.TheVariants as a_size
use Rattle.ntfs_make.specs.Shape.{bad_cluster, bitmap_size}
use Rattle.ntfs_make.specs.Areas.{area_at}

abbrev pub holes_run : ℕ → Run
holes_run count = record { length = count; lcn = None }

abbrev pub clusters_run : ℕ → ℕ → Run
clusters_run start count = record { length = count; lcn = Some start }

-- the run that a planned one is on the volume; it is empty where none is planned
unfoldable pub run_of : Shape → PlannedRun → Run
run_of shape NoRun = holes_run 0
run_of shape (InArea number) = clusters_run (area_at shape number).start (area_at shape number).length
run_of shape (Holes count) = holes_run count
run_of shape BeforeBad = holes_run (bad_cluster shape.clusters)
run_of shape Bad = clusters_run (bad_cluster shape.clusters) 1
run_of shape BehindBad = holes_run (shape.clusters - bad_cluster shape.clusters - 1)

-- the clusters and holes that are planned for an extent
abbrev pub planned_runs : Extent → List PlannedRun
planned_runs extent = extent.first ∷ extent.second ∷ extent.third ∷ []

-- the run, where it has a cluster
abbrev pub unless_empty : Run → List Run
unless_empty run = if run.length == 0 then [] else run ∷ []

-- the runs that are planned, but for empty ones
unfoldable pub extent_runs : Shape → List PlannedRun → List Run
extent_runs shape planned = flat_map (λ run. unless_empty run) (map (run_of shape) planned)

-- how many VCNs these runs have
unfoldable pub vcn_count : Shape → List PlannedRun → ℕ
vcn_count shape planned = sum_by (λ each. (run_of shape each).length) planned

-- the mapping pairs of these runs: their shortest spelling, with the closing 0
unfoldable pub pairs_of : Shape → List PlannedRun → List ℕ
pairs_of shape planned = canon (vcns (extent_runs shape planned))

-- a number of bytes
unfoldable pub size_bytes : Shape → Size → ℕ
size_bytes shape (a_size.Exact count) = count
size_bytes shape (a_size.Clusters count) = count * shape.cluster
size_bytes shape (a_size.ClusterAnd count) = shape.cluster + count
size_bytes shape (a_size.InArea number) = (area_at shape number).length * shape.cluster
size_bytes shape a_size.Bitmap = bitmap_size shape.clusters
size_bytes shape a_size.Volume = shape.clusters * shape.cluster
