use Rattle.ntfs_attrlist.proofs.LawLemmas.{one_or_other, never_both, one-entries, one-break}
use Rattle.ntfs_attrlist.proofs.laws.lists_have_one_reading.Goals as goal

pub returns-clause-either : goal.returns-clause-either
returns-clause-either c = one_or_other

pub returns-clause-not_both : goal.returns-clause-not_both
returns-clause-not_both c = never_both

pub returns-clause-entries : goal.returns-clause-entries
returns-clause-entries c = one-entries

pub returns-clause-breaks : goal.returns-clause-breaks
returns-clause-breaks c = one-break
