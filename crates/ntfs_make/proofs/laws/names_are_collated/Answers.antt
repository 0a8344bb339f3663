use Rattle.ntfs_make.proofs.NameOrderLemmas.{before-collated}
use Rattle.ntfs_make.proofs.laws.names_are_collated.Goals as goal

pub returns : goal.returns
returns c = before-collated
