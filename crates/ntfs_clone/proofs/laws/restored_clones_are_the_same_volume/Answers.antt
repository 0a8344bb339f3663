use Rattle.ntfs_clone.proofs.SameLemmas.{clone-restored, same-volume}
use Rattle.ntfs_clone.proofs.laws.restored_clones_are_the_same_volume.Goals as goal

pub returns-clause-restored : goal.returns-clause-restored
returns-clause-restored c = clone-restored

pub returns-clause-same : goal.returns-clause-same
returns-clause-same c = same-volume
