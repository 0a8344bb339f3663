use Rattle.ntfs_attrlist.proofs.LawLemmas.{raws-read, list_entries-found, list_entries-fault}
use Rattle.ntfs_attrlist.proofs.laws.lists_are_read.Goals as goal

pub returns-clause-joined : goal.returns-clause-joined
returns-clause-joined c = raws-read

pub returns-clause-found : goal.returns-clause-found
returns-clause-found c = list_entries-found

pub returns-clause-fault : goal.returns-clause-fault
returns-clause-fault c = list_entries-fault
