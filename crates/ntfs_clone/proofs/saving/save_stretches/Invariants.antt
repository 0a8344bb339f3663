use Rattle.std.proofs.Common.{◌≡◌, ◌-◌, []}
use Rattle.ntfs_base.specs.Causes.{HaveNotFallen}
use Rattle.ntfs_base.specs.Frames.{IfTold, SinkHasNotFallen}
use Rattle.ntfs_clone.specs.CloneOf.{cluster_commands, volume_of}
use Rattle.ntfs_clone.specs.Commands.{commands_bytes}
use Rattle.ntfs_clone.specs.Saving.{HasPut}
use Rattle.ntfs_clone.proofs.SavingLemmas.{IsUnderWay}
use Rattle.ntfs_clone.proofs.saving.save_stretches.Given as goal

abbrev pub invariant-stretches : goal.invariant-stretches
invariant-stretches g l = record {
  seen : g.G.Image.seen l.image ≡ g.G.Image.seen l.initial.image;
  counts : HaveNotFallen (g.G.Image.faults l.initial.image) (g.G.Image.faults l.image);
  puts : SinkHasNotFallen (g.K.Sink.faults l.initial.sink) (g.K.Sink.faults l.sink);
  kept : HasPut (g.K.Sink.seen l.initial.sink) (g.K.Sink.seen l.sink);
  saved : IfTold g.G.Image l.initial.image (λ content.
      IsUnderWay (commands_bytes (cluster_commands (volume_of l.geometry l.owned content) 0 l.geometry.clusters []))
      (commands_bytes (cluster_commands (volume_of l.geometry l.owned content) l.from (l.geometry.clusters - l.from) []))
      l.initial.waiting.items (g.K.Sink.seen l.initial.sink) l.waiting.items (g.K.Sink.seen l.sink));
}

abbrev pub decreases-stretches : goal.decreases-stretches
decreases-stretches g l = l.geometry.clusters - l.from
