use Rattle.std.proofs.Common.{◌≡◌, ◌+◌, ◌-◌, ◌<◌, ◌≤◌, ℕ}
use Rattle.ntfs_bitmap.specs.Bits.{bit_of}
use Rattle.ntfs_bitmap.specs.ClusterSet.{has}
use Rattle.ntfs_bitmap.proofs.cluster_set.ClusterSet.first_difference.Given as goal

abbrev pub invariant-stretches : goal.invariant-stretches
invariant-stretches l = (l.at ≤ l.count)
    × ((place : ℕ) → place < l.at → has l.self (l.start + place) ≡ bit_of l.bits place)

abbrev pub decreases-stretches : goal.decreases-stretches
decreases-stretches l = l.count - l.at
