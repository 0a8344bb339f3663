use Rattle.std.proofs.Common.{length, ◌≡◌, ◌≤◌, IsTrue}
use Rattle.ntfs_clone.specs.Reading.{HasPlace, HasRead, commands_left, unread}
use Rattle.ntfs_clone.specs.Taking.{HasGiven, to_come}
use Rattle.ntfs_clone.proofs.reading.read_commands.Given as goal

abbrev pub invariant-commands : goal.invariant-commands
invariant-commands g l = record {
  size : length l.input.bytes.items ≡ 524288;
  fits : HasPlace l.progress;
  kept : HasGiven (g.I.Source.seen l.initial.source) (g.I.Source.seen l.source);
  faults : g.I.Source.faults l.initial.source ≤ g.I.Source.faults l.source;
  read : IsTrue (g.I.Source.seen l.initial.source).is_told → HasRead l.header (to_come (g.I.Source.seen l.initial.source)) l.progress (unread l.input (g.I.Source.seen l.source));
}

abbrev pub decreases-commands : goal.decreases-commands
decreases-commands g l = commands_left l.progress.room l.progress.after_empty
