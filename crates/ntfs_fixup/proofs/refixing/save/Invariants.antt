-- The words of the strides before this one are saved, every other byte is old.
use Rattle.ntfs_fixup.proofs.StepLemmas.{IsSavedTo}
use Rattle.ntfs_fixup.proofs.refixing.save.Given as goal

abbrev pub invariant-saved : goal.invariant-saved
invariant-saved l = IsSavedTo l.fn.offset l.fn.block l.block l.stride
