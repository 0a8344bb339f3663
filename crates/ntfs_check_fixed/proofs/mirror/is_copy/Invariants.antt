use Rattle.std.proofs.Common.{◌≡◌, ◌<◌, ℕ, true}
use Rattle.ntfs_check_fixed.specs.Copies.{is_same_at}
use Rattle.ntfs_check_fixed.proofs.mirror.is_copy.Given as goal

abbrev pub invariant-bytes : goal.invariant-bytes
invariant-bytes l = (p : ℕ) → p < l.place → is_same_at l.block l.copy p ≡ true
