use Rattle.ntfs_volume.proofs.LawLemmas.{agrees, grows}
use Rattle.ntfs_volume.proofs.laws.maps_grow.Goals as goal

pub returns-clause-begins : goal.returns-clause-begins
returns-clause-begins c = grows

pub returns-clause-agree : goal.returns-clause-agree
returns-clause-agree c = agrees
