use Rattle.std.proofs.Common.{◌≡◌, ◌≤◌, length}
use Rattle.ntfs_run.specs.Message.{without_zeros}
use Rattle.ntfs_run.proofs.message.without_zeros.Given as goal

-- the zeros so far go
abbrev pub invariant-zeros : goal.invariant-zeros
invariant-zeros l = (without_zeros l.left ≡ without_zeros l.digits) × (length l.left ≤ length l.digits)

abbrev pub decreases-zeros : goal.decreases-zeros
decreases-zeros l = length l.left
