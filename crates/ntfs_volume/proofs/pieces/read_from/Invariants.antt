use Rattle.std.proofs.Common.{◌≡◌, ◌≤◌, ◌+◌, ◌-◌, ◌*◌, ◌++◌, take, drop, length, true}
use Rattle.std.specs.Prelude.{IsTrue}
use Rattle.ntfs_base.specs.Bytes.{cluster_at}
use Rattle.ntfs_base.specs.Causes.{HaveNotFallen}
use Rattle.ntfs_runs.specs.Cells.{are_cells, map_cells}
use Rattle.ntfs_runs.specs.Clusters.{vcns}
use Rattle.ntfs_volume.specs.StreamBytes.{cells_bytes}
use Rattle.ntfs_volume.proofs.pieces.read_from.Given as goal

abbrev pub invariant-runs : goal.invariant-runs
invariant-runs g l = record {
  done : l.done ≤ length l.block;
  long : length l.block ≡ length l.initial.block;
  seen : g.G.Image.seen l.image ≡ g.G.Image.seen l.initial.image;
  counts : HaveNotFallen (g.G.Image.faults l.initial.image) (g.G.Image.faults l.image);
  cells : are_cells true l.geometry.clusters (vcns (drop l.run-index l.runs)) ≡ true;
  reach : l.skip + (length l.block - l.done) ≤ length (vcns (drop l.run-index l.runs)) * l.geometry.cluster;
  bytes : IsTrue (g.G.Image.seen l.initial.image).is_told
      → take l.done l.block ++ take (length l.block - l.done) (drop l.skip (cells_bytes l.geometry.cluster
      (map_cells (cluster_at (g.G.Image.seen l.initial.image).content l.geometry.cluster) (vcns (drop l.run-index l.runs)))))
      ≡ take (length l.block) (drop l.from (cells_bytes l.geometry.cluster
      (map_cells (cluster_at (g.G.Image.seen l.initial.image).content l.geometry.cluster) (vcns l.runs))));
}
