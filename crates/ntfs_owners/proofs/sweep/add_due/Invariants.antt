use Rattle.std.proofs.Common.{◌-◌, ℕ, drop, length}
use Rattle.ntfs_owners.specs.Sweep.{IsSwept}
use Rattle.ntfs_owners.proofs.sweep.add_due.Given as goal

abbrev pub invariant-due : goal.invariant-due
invariant-due l = (first end : ℕ → ℕ) (m : ℕ) → IsSwept first end m l.at l.initial.active.items (drop l.initial.next l.starts) → IsSwept first end m l.at l.active.items (drop l.next l.starts)

abbrev pub decreases-due : goal.decreases-due
decreases-due l = length l.starts - l.next
