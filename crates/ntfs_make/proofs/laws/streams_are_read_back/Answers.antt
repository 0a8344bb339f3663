use Rattle.ntfs_make.proofs.StreamReadLemmas.{streams-read-back}
use Rattle.ntfs_make.proofs.laws.streams_are_read_back.Goals as goal

pub returns : goal.returns
returns c = streams-read-back
