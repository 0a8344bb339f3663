use Rattle.std.proofs.Common.{◌<◌, ◌≤◌, ◌-◌, drop, length, map}
use Rattle.std.specs.Prelude.{All}
use Rattle.std.specs.List.Sorted.{IsNonDecreasing}
use Rattle.ntfs_base.specs.Frames.{SinkHasNotFallen}
use Rattle.ntfs_owners.specs.Sweep.{IsSwept, span_end, span_first, row_span, swept_lines}
use Rattle.ntfs_print.proofs.PendingLemmas.{IsUnderWay}
use Rattle.ntfs_owners.proofs.sweep.sweep.Given as goal

abbrev pub invariant-clusters : goal.invariant-clusters
invariant-clusters g l = record {
  swept : IsSwept (span_first (map row_span l.rows)) (span_end (map row_span l.rows)) (length (map row_span l.rows)) l.at l.active.items (drop l.next l.starts);
  order : IsNonDecreasing l.active.items;
  going : All (λ i. l.at < span_end (map row_span l.rows) i) l.active.items;
  from : l.from ≤ l.at;
  way : IsUnderWay (swept_lines (map row_span l.rows) l.from (l.end - l.from)) (swept_lines (map row_span l.rows) l.at (l.end - l.at)) l.initial.pending (g.K.Sink.seen l.initial.out) l.pending (g.K.Sink.seen l.out);
  puts : SinkHasNotFallen (g.K.Sink.faults l.initial.out) (g.K.Sink.faults l.out);
}

abbrev pub decreases-clusters : goal.decreases-clusters
decreases-clusters g l = l.end - l.at
