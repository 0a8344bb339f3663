use Rattle.std.proofs.Common.{◌≡◌, ◌≤◌, ◌*◌, ◌-◌, true}
use Rattle.ntfs_base.specs.Bytes.{cluster_at}
use Rattle.ntfs_base.specs.Causes.{HaveNotFallen}
use Rattle.ntfs_base.specs.Frames.{IfTold, SinkHasNotFallen}
use Rattle.ntfs_runs.specs.Clusters.{row}
use Rattle.ntfs_runs.specs.Cells.{are_cells, map_cells}
use Rattle.ntfs_stream.specs.Putting.{IsLeft, pieces}
use Rattle.ntfs_stream.proofs.rows.put_run.Given as goal

abbrev pub invariant-rows : goal.invariant-rows
invariant-rows g l = record {
  count : l.left.length ≤ l.run.length;
  size : l.rest.size ≡ l.initial.rest.size - (l.run.length - l.left.length) * l.geometry.cluster;
  valid : l.rest.valid ≡ l.initial.rest.valid - (l.run.length - l.left.length) * l.geometry.cluster;
  cells : are_cells true l.geometry.clusters (row l.left.length l.left.lcn) ≡ true;
  seen : g.G.Image.seen l.image ≡ g.G.Image.seen l.initial.image;
  counts : HaveNotFallen (g.G.Image.faults l.initial.image) (g.G.Image.faults l.image);
  puts : SinkHasNotFallen (g.K.Sink.faults l.initial.sink) (g.K.Sink.faults l.sink);
  put : IfTold g.G.Image l.initial.image (λ content.
      IsLeft (pieces l.geometry.cluster l.initial.rest.size l.initial.rest.valid (map_cells (cluster_at content l.geometry.cluster) (row l.run.length l.run.lcn)))
      (pieces l.geometry.cluster l.rest.size l.rest.valid (map_cells (cluster_at content l.geometry.cluster) (row l.left.length l.left.lcn)))
      (g.K.Sink.seen l.initial.sink) (g.K.Sink.seen l.sink));
}

abbrev pub decreases-rows : goal.decreases-rows
decreases-rows g l = l.left.length
