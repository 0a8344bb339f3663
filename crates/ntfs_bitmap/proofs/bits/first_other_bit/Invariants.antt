use Rattle.std.proofs.Common.{◌≡◌, ◌-◌, ◌<◌, ◌≤◌, ℕ}
use Rattle.ntfs_bitmap.specs.Bits.{bit_of}
use Rattle.ntfs_bitmap.proofs.bits.first_other_bit.Given as goal

abbrev pub invariant-bits : goal.invariant-bits
invariant-bits l = (l.from ≤ l.at) × (l.at ≤ l.to)
    × ((place : ℕ) → l.from ≤ place → place < l.at → bit_of l.bits place ≡ l.expected)

abbrev pub decreases-bits : goal.decreases-bits
decreases-bits l = l.to - l.at
