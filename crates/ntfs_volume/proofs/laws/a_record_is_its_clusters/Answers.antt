use Rattle.ntfs_volume.proofs.ToldLemmas.{raw-bytes, raw-cluster, raw-within}
use Rattle.ntfs_volume.proofs.laws.a_record_is_its_clusters.Goals as goal

pub returns-clause-bytes : goal.returns-clause-bytes
returns-clause-bytes c = raw-bytes

pub returns-clause-within : goal.returns-clause-within
returns-clause-within c = raw-within

pub returns-clause-cluster : goal.returns-clause-cluster
returns-clause-cluster c = raw-cluster
