use Rattle.std.proofs.Common.{◌≡◌, ◌<◌, ◌||◌, ℕ, drop}
use Rattle.ntfs_bitmap.specs.ClusterSet.{bound_of, has}
use Rattle.ntfs_owners.specs.Owners.{owns}
use Rattle.ntfs_owners.proofs.cover.owned_count.Given as goal

abbrev pub invariant-owners : goal.invariant-owners
invariant-owners l = record {
  bound : bound_of l.set ≡ l.bound;
  added : (k : ℕ) → k < l.bound → (has l.set k || owns (drop l.owner-index l.owners) k) ≡ owns l.owners k;
}
