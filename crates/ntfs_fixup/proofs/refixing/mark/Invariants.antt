-- The strides before this one end with the number, every byte that is no stride's end is old.
use Rattle.ntfs_fixup.proofs.StepLemmas.{IsMarkedTo}
use Rattle.ntfs_fixup.proofs.refixing.mark.Given as goal

abbrev pub invariant-strides : goal.invariant-strides
invariant-strides l = IsMarkedTo l.number l.fn.block l.block l.stride
