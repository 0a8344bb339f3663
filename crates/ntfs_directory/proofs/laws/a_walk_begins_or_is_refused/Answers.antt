use Rattle.ntfs_directory.proofs.LawLemmas.{walk-begins, walk-refused}
use Rattle.ntfs_directory.proofs.laws.a_walk_begins_or_is_refused.Goals as goal

pub returns-clause-begins : goal.returns-clause-begins
returns-clause-begins c = walk-begins

pub returns-clause-refused : goal.returns-clause-refused
returns-clause-refused c = walk-refused
