use Rattle.ntfs_edit.proofs.RowLemmas.{recoded}
use Rattle.ntfs_edit.proofs.laws.encoded_pairs_are_read.Goals as goal

pub returns : goal.returns
returns c = recoded
