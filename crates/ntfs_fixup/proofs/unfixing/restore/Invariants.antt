-- The bytes before this stride are unfixed, those from it on are old.
use Rattle.ntfs_fixup.proofs.StepLemmas.{IsUnfixedTo}
use Rattle.ntfs_fixup.proofs.unfixing.restore.Given as goal

abbrev pub invariant-strides : goal.invariant-strides
invariant-strides l = IsUnfixedTo l.fn.block l.block l.stride
