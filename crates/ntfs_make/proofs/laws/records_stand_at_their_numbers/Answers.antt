use Rattle.ntfs_make.proofs.StreamReadLemmas.{records-stand}
use Rattle.ntfs_make.proofs.laws.records_stand_at_their_numbers.Goals as goal

pub returns : goal.returns
returns c = records-stand
