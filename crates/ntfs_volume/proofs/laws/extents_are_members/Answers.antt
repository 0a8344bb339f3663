use Rattle.ntfs_volume.proofs.ExtentsLemmas.{members, of-type}
use Rattle.ntfs_volume.proofs.laws.extents_are_members.Goals as goal

pub returns-clause-members : goal.returns-clause-members
returns-clause-members g c = members

pub returns-clause-named : goal.returns-clause-named
returns-clause-named g c = of-type
