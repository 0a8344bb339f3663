use Rattle.std.proofs.Common.{length, ◌≡◌, ◌≤◌, IsTrue}
use Rattle.ntfs_base.specs.Causes.{HaveNotFallen}
use Rattle.ntfs_clone.specs.Reading.{HasPlace, commands_left, unread}
use Rattle.ntfs_clone.specs.Taking.{HasGiven, to_come}
use Rattle.ntfs_clone.specs.Writing.{HasRestored, IsSameFile, Reaches}
use Rattle.ntfs_clone.proofs.restoring.write_commands.Given as goal

abbrev pub invariant-commands : goal.invariant-commands
invariant-commands g l = record {
  size : length l.input.bytes.items ≡ 524288;
  fits : HasPlace l.progress;
  reaches : Reaches l.header l.progress.room l.row;
  kept : HasGiven (g.I.Source.seen l.initial.source) (g.I.Source.seen l.source);
  same : IsSameFile (g.F.Image.seen l.initial.target) (g.F.Image.seen l.target);
  faults : g.I.Source.faults l.initial.source ≤ g.I.Source.faults l.source;
  counts : HaveNotFallen (g.F.Image.faults l.initial.target) (g.F.Image.faults l.target);
  put : IsTrue (g.I.Source.seen l.initial.source).is_told
      → HasRestored l.header (to_come (g.I.Source.seen l.initial.source)) l.progress (unread l.input (g.I.Source.seen l.source)) l.row (g.F.Image.seen l.target);
}

abbrev pub decreases-commands : goal.decreases-commands
decreases-commands g l = commands_left l.progress.room l.progress.after_empty
