use Rattle.ntfs_rules.proofs.OwnedLemmas.{boot-owned, claims-below, owned-single, table-begins_head, table-owned}
use Rattle.ntfs_rules.proofs.laws.clusters_are_owned_once.Goals as goal

pub returns-clause-distinct : goal.returns-clause-distinct
returns-clause-distinct c = owned-single

pub returns-clause-below : goal.returns-clause-below
returns-clause-below c = claims-below

pub returns-clause-table : goal.returns-clause-table
returns-clause-table c = table-owned

pub returns-clause-first : goal.returns-clause-first
returns-clause-first c = boot-owned

pub returns-clause-begins : goal.returns-clause-begins
returns-clause-begins c = table-begins_head
