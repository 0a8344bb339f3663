use Rattle.std.proofs.Common.{drop, map}
use Rattle.ntfs_base.specs.Frames.{SinkHasNotFallen}
use Rattle.ntfs_owners.specs.Sweep.{rows_cluster, row_span}
use Rattle.ntfs_print.proofs.PendingLemmas.{IsUnderWay}
use Rattle.ntfs_owners.proofs.sweep.print_rows.Given as goal

abbrev pub invariant-active : goal.invariant-active
invariant-active g l = record {
  way : IsUnderWay (rows_cluster l.cluster (map row_span l.rows) l.active) (rows_cluster l.cluster (map row_span l.rows) (drop l.number-index l.active)) l.initial.pending (g.K.Sink.seen l.initial.out) l.pending (g.K.Sink.seen l.out);
  puts : SinkHasNotFallen (g.K.Sink.faults l.initial.out) (g.K.Sink.faults l.out);
}
