use Rattle.ntfs_survey.proofs.StreamLemmas.{cells-owned, volume-none}
use Rattle.ntfs_survey.proofs.laws.gathered_clusters_are_owned.Goals as goal

pub returns-clause-streams : goal.returns-clause-streams
returns-clause-streams g c size listings slots r kind name gathered none is =
    cells-owned slots r kind name gathered.stream.cells none (c.cells_are_of_members.ensures size listings slots r kind name gathered is)

pub returns-clause-volumes : goal.returns-clause-volumes
returns-clause-volumes g c geometry map f = volume-none geometry map f
