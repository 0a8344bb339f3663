use Rattle.std.proofs.Common.{drop, map}
use Rattle.ntfs_base.specs.Frames.{SinkHasNotFallen}
use Rattle.ntfs_owners.specs.Held.{held_of}
use Rattle.ntfs_owners.specs.OwnerLines.{held_lines}
use Rattle.ntfs_print.proofs.PendingLemmas.{IsUnderWay}
use Rattle.ntfs_owners.proofs.owner_lines.print_held.Given as goal

abbrev pub invariant-held : goal.invariant-held
invariant-held g l = record {
  way : IsUnderWay (held_lines (map held_of l.held)) (held_lines (map held_of (drop l.holding-index l.held))) l.initial.pending (g.K.Sink.seen l.initial.out) l.pending (g.K.Sink.seen l.out);
  puts : SinkHasNotFallen (g.K.Sink.faults l.initial.out) (g.K.Sink.faults l.out);
}
