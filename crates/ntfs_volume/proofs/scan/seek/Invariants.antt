use Rattle.std.proofs.Common.{length, ◌-◌, ◌≤◌}
use Rattle.ntfs_volume.specs.Scan.{IsCursor}
use Rattle.ntfs_volume.proofs.scan.seek.Given as goal

abbrev pub invariant-runs : goal.invariant-runs
invariant-runs l = record {
  cursor : IsCursor l.cluster l.runs l.at;
  above : l.at.begins ≤ l.place;
  further : l.fn.from.index ≤ l.at.index;
}

abbrev pub decreases-runs : goal.decreases-runs
decreases-runs l = length l.runs - l.at.index
