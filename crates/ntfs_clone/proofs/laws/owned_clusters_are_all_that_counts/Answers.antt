use Rattle.ntfs_clone.proofs.SameLemmas.{one-volume}
use Rattle.ntfs_clone.proofs.laws.owned_clusters_are_all_that_counts.Goals as goal

pub returns : goal.returns
returns c = one-volume
