use Rattle.ntfs_volume.proofs.ToldLemmas.{head-same, table-begins, table-head}
use Rattle.ntfs_volume.proofs.laws.map_begins_at_the_boot_sector.Goals as goal

pub returns-clause-first : goal.returns-clause-first
returns-clause-first c = table-begins

pub returns-clause-begins : goal.returns-clause-begins
returns-clause-begins c = table-head

pub returns-clause-same : goal.returns-clause-same
returns-clause-same c = head-same
