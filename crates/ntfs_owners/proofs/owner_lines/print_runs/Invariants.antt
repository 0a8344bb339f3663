use Rattle.std.proofs.Common.{◌≡◌, ◌+◌, drop, length}
use Rattle.ntfs_base.specs.Frames.{SinkHasNotFallen}
use Rattle.ntfs_runs.specs.Clusters.{vcns}
use Rattle.ntfs_owners.specs.OwnerLines.{run_lines}
use Rattle.ntfs_print.proofs.PendingLemmas.{IsUnderWay}
use Rattle.ntfs_owners.proofs.owner_lines.print_runs.Given as goal

abbrev pub invariant-runs : goal.invariant-runs
invariant-runs g l = record {
  vcn : l.vcn + length (vcns (drop l.run-index l.runs)) ≡ l.fn.lowest + length (vcns l.runs);
  way : IsUnderWay (run_lines l.text l.fn.lowest l.runs) (run_lines l.text l.vcn (drop l.run-index l.runs)) l.initial.pending (g.K.Sink.seen l.initial.out) l.pending (g.K.Sink.seen l.out);
  puts : SinkHasNotFallen (g.K.Sink.faults l.initial.out) (g.K.Sink.faults l.out);
}
