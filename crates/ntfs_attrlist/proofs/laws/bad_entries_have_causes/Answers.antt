use Rattle.ntfs_attrlist.proofs.EntryLemmas.{bad-is}
use Rattle.ntfs_attrlist.proofs.laws.bad_entries_have_causes.Goals as goal

pub returns : goal.returns
returns c = bad-is
