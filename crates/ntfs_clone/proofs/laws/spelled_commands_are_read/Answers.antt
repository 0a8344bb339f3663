use Rattle.ntfs_clone.proofs.SpellingLemmas.{spelled-read}
use Rattle.ntfs_clone.proofs.laws.spelled_commands_are_read.Goals as goal

pub returns : goal.returns
returns c = spelled-read
