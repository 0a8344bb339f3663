use Rattle.std.proofs.Common.{◌≡◌, ◌≤◌, drop, true}
use Rattle.ntfs_base.specs.Bytes.{cluster_at}
use Rattle.ntfs_base.specs.Causes.{HaveNotFallen}
use Rattle.ntfs_base.specs.Frames.{IfTold, SinkHasNotFallen}
use Rattle.ntfs_runs.specs.Clusters.{vcns}
use Rattle.ntfs_runs.specs.Cells.{are_cells, map_cells}
use Rattle.ntfs_stream.specs.Putting.{IsLeft, pieces}
use Rattle.ntfs_stream.proofs.rows.put_runs.Given as goal

abbrev pub invariant-runs : goal.invariant-runs
invariant-runs g l = record {
  valid : l.rest.valid ≤ l.rest.size;
  cells : are_cells true l.geometry.clusters (vcns (drop l.run-index l.runs)) ≡ true;
  seen : g.G.Image.seen l.image ≡ g.G.Image.seen l.initial.image;
  counts : HaveNotFallen (g.G.Image.faults l.initial.image) (g.G.Image.faults l.image);
  puts : SinkHasNotFallen (g.K.Sink.faults l.initial.sink) (g.K.Sink.faults l.sink);
  put : IfTold g.G.Image l.initial.image (λ content.
      IsLeft (pieces l.geometry.cluster l.initial.rest.size l.initial.rest.valid (map_cells (cluster_at content l.geometry.cluster) (vcns l.runs)))
      (pieces l.geometry.cluster l.rest.size l.rest.valid (map_cells (cluster_at content l.geometry.cluster) (vcns (drop l.run-index l.runs))))
      (g.K.Sink.seen l.initial.sink) (g.K.Sink.seen l.sink));
}
