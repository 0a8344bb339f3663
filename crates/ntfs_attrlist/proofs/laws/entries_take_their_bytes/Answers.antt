use Rattle.ntfs_attrlist.proofs.LawLemmas.{entries-few, breaks-few}
use Rattle.ntfs_attrlist.proofs.laws.entries_take_their_bytes.Goals as goal

pub returns-clause-entries : goal.returns-clause-entries
returns-clause-entries c = entries-few

pub returns-clause-breaks : goal.returns-clause-breaks
returns-clause-breaks c = breaks-few
