use Rattle.std.proofs.Common.{◌≡◌, ◌<◌, ◌≤◌, ◌||◌, ℕ, ◌-◌}
use Rattle.ntfs_bitmap.specs.ClusterSet.{bound_of, has, in_run}
use Rattle.ntfs_owners.proofs.cover.add_row.Given as goal

abbrev pub invariant-pieces : goal.invariant-pieces
invariant-pieces l = record {
  bound : bound_of l.set ≡ l.bound;
  from : l.first ≤ l.at;
  reached : l.at - l.first ≤ l.end - l.first;
  row : (k : ℕ) → k < l.bound → has l.set k ≡ (has l.initial.set k || in_run l.first (l.at - l.first) k);
}

abbrev pub decreases-pieces : goal.decreases-pieces
decreases-pieces l = l.end - l.at
