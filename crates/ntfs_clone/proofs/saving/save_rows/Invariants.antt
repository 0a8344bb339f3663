use Rattle.std.proofs.Common.{◌≡◌, ◌≤◌, ◌-◌}
use Rattle.ntfs_base.specs.Causes.{HaveNotFallen}
use Rattle.ntfs_base.specs.Frames.{IfTold, SinkHasNotFallen}
use Rattle.ntfs_clone.specs.Saving.{HasPut, spelled_row}
use Rattle.ntfs_clone.proofs.SavingLemmas.{IsUnderWay}
use Rattle.ntfs_clone.proofs.saving.save_rows.Given as goal

abbrev pub invariant-rows : goal.invariant-rows
invariant-rows g l = record {
  most : l.at ≤ l.end;
  seen : g.G.Image.seen l.image ≡ g.G.Image.seen l.initial.image;
  counts : HaveNotFallen (g.G.Image.faults l.initial.image) (g.G.Image.faults l.image);
  puts : SinkHasNotFallen (g.K.Sink.faults l.initial.sink) (g.K.Sink.faults l.sink);
  kept : HasPut (g.K.Sink.seen l.initial.sink) (g.K.Sink.seen l.sink);
  saved : IfTold g.G.Image l.initial.image (λ content.
      IsUnderWay (spelled_row content l.geometry.cluster l.from (l.end - l.from)) (spelled_row content l.geometry.cluster l.at (l.end - l.at))
      l.initial.waiting.items (g.K.Sink.seen l.initial.sink) l.waiting.items (g.K.Sink.seen l.sink));
}

abbrev pub decreases-rows : goal.decreases-rows
decreases-rows g l = l.end - l.at
