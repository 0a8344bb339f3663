use Rattle.ntfs_bitmap.proofs.SetLemmas.{has-below, same-set}
use Rattle.ntfs_bitmap.proofs.laws.sets_are_their_members.Goals as goal

pub returns-clause-below : goal.returns-clause-below
returns-clause-below c = has-below

pub returns-clause-same : goal.returns-clause-same
returns-clause-same c = same-set
