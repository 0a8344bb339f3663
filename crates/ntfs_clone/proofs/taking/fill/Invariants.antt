use Rattle.std.proofs.Common.{length, ◌-◌, ◌≡◌, ◌≤◌, take, IsTrue}
use Rattle.ntfs_base.specs.Source.{after_take}
use Rattle.ntfs_clone.specs.Taking.{to_come}
use Rattle.ntfs_clone.proofs.taking.fill.Given as goal

abbrev pub invariant-pieces : goal.invariant-pieces
invariant-pieces g l = record {
  len : length l.into ≡ length l.initial.into;
  room : l.count ≤ length l.into;
  seen : g.I.Source.seen l.source ≡ after_take l.count (g.I.Source.seen l.initial.source);
  bytes : IsTrue (g.I.Source.seen l.initial.source).is_told → take l.count l.into ≡ take l.count (to_come (g.I.Source.seen l.initial.source));
  faults : g.I.Source.faults l.initial.source ≤ g.I.Source.faults l.source;
}

abbrev pub decreases-pieces : goal.decreases-pieces
decreases-pieces g l = length l.initial.into - l.count
