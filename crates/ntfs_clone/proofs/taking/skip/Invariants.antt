use Rattle.std.proofs.Common.{length, ◌-◌, ◌≡◌, ◌≤◌, IsTrue}
use Rattle.ntfs_base.specs.Source.{after_take}
use Rattle.ntfs_clone.specs.Taking.{to_come}
use Rattle.ntfs_clone.proofs.taking.skip.Given as goal

abbrev pub invariant-pieces : goal.invariant-pieces
invariant-pieces g l = record {
  room : l.left ≤ l.count;
  seen : g.I.Source.seen l.source ≡ after_take (l.count - l.left) (g.I.Source.seen l.initial.source);
  had : IsTrue (g.I.Source.seen l.initial.source).is_told → l.count - l.left ≤ length (to_come (g.I.Source.seen l.initial.source));
  faults : g.I.Source.faults l.initial.source ≤ g.I.Source.faults l.source;
}

abbrev pub decreases-pieces : goal.decreases-pieces
decreases-pieces g l = l.left
