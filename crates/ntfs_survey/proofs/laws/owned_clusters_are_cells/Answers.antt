use Rattle.ntfs_survey.proofs.ClaimLemmas.{owned-each, owned-only}
use Rattle.ntfs_survey.proofs.laws.owned_clusters_are_cells.Goals as goal

pub returns-clause-only : goal.returns-clause-only
returns-clause-only g c slots = owned-only slots

pub returns-clause-each : goal.returns-clause-each
returns-clause-each g c slots r a i k has runs is = owned-each slots r a i k has runs is
