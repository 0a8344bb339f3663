use Rattle.ntfs_survey.proofs.ClaimLemmas.{owned-map}
use Rattle.ntfs_survey.proofs.laws.owned_clusters_map.Goals as goal

pub returns : goal.returns
returns g c moved f slots = owned-map moved f 0 slots
