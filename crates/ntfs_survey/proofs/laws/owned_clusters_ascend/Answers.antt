use Rattle.ntfs_survey.proofs.OrderLemmas.{owned-ascend, volume-ordered}
use Rattle.ntfs_survey.proofs.laws.owned_clusters_ascend.Goals as goal

pub returns-clause-ascend : goal.returns-clause-ascend
returns-clause-ascend g c slots all = owned-ascend 0 slots all

pub returns-clause-volumes : goal.returns-clause-volumes
returns-clause-volumes g c geometry map f = volume-ordered geometry map f
