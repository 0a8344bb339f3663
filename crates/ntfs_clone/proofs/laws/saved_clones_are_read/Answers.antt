use Rattle.ntfs_clone.proofs.OpenedLemmas.{opened-volume}
use Rattle.ntfs_clone.proofs.ReadBackLemmas.{clone-read}
use Rattle.ntfs_clone.proofs.laws.saved_clones_are_read.Goals as goal

pub returns-clause-opened : goal.returns-clause-opened
returns-clause-opened c = opened-volume

pub returns-clause-read : goal.returns-clause-read
returns-clause-read c = clone-read
