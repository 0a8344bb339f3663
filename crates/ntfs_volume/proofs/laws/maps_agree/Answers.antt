use Rattle.ntfs_volume.proofs.ToldLemmas.{opened-agree, table-agree}
use Rattle.ntfs_volume.proofs.laws.maps_agree.Goals as goal

pub returns-clause-maps : goal.returns-clause-maps
returns-clause-maps c = table-agree

pub returns-clause-opened : goal.returns-clause-opened
returns-clause-opened c = opened-agree
