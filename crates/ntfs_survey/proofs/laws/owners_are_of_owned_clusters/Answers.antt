use Rattle.ntfs_volume.specs.Located.{with_cells}
use Rattle.ntfs_survey.proofs.OwnedLemmas.{claims-from}
use Rattle.ntfs_survey.proofs.laws.owners_are_of_owned_clusters.Goals as goal

pub returns : goal.returns
unfolding with_cells
returns c n slots = claims-from n 0 slots
