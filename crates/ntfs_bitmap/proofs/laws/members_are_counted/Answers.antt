use Rattle.ntfs_bitmap.proofs.LawLemmas.{count-members, count-past, member-is, members-ascend}
use Rattle.ntfs_bitmap.proofs.laws.members_are_counted.Goals as goal

pub returns-clause-counted : goal.returns-clause-counted
returns-clause-counted c = count-members

pub returns-clause-member : goal.returns-clause-member
returns-clause-member c = member-is

pub returns-clause-ascending : goal.returns-clause-ascending
returns-clause-ascending c = members-ascend

pub returns-clause-all : goal.returns-clause-all
returns-clause-all c = count-past
