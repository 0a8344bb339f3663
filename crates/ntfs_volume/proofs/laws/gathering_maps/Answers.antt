use Rattle.ntfs_volume.proofs.MappedLemmas.{gather-filled, gather-mapped}
use Rattle.ntfs_volume.proofs.laws.gathering_maps.Goals as goal

pub returns-clause-clusters : goal.returns-clause-clusters
returns-clause-clusters g c = gather-mapped

pub returns-clause-filled : goal.returns-clause-filled
returns-clause-filled g c = gather-filled
