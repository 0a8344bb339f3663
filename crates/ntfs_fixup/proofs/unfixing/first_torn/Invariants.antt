-- The strides before this one end with the update sequence number.
use Rattle.std.proofs.Common.{◌≡◌, ◌<◌, ℕ, true}
use Rattle.ntfs_fixup.specs.Fixups.{agrees}
use Rattle.ntfs_fixup.proofs.unfixing.first_torn.Given as goal

abbrev pub invariant-tested : goal.invariant-tested
invariant-tested l = (k : ℕ) → k < l.stride → agrees l.block k ≡ true
