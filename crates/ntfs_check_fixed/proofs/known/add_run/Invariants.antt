use Rattle.std.proofs.Common.{◌≤◌, ◌-◌}
use Rattle.ntfs_bitmap.specs.ClusterSet.{in_run}
use Rattle.ntfs_check_fixed.specs.Facts.{AddsClusters}
use Rattle.ntfs_check_fixed.proofs.known.add_run.Given as goal

abbrev pub invariant-pieces : goal.invariant-pieces
invariant-pieces l = record {
  from : l.first ≤ l.at;
  reached : l.at ≤ l.end;
  row : AddsClusters l.initial.set l.set (in_run l.first (l.at - l.first));
}

abbrev pub decreases-pieces : goal.decreases-pieces
decreases-pieces l = l.end - l.at
