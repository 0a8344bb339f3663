use Rattle.ntfs_make.proofs.ApartLemmas.{areas-apart}
use Rattle.ntfs_make.proofs.laws.areas_are_apart.Goals as goal

pub returns : goal.returns
returns c = areas-apart
