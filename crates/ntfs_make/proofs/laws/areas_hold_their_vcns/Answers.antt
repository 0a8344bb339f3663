use Rattle.ntfs_make.proofs.ReadLemmas.{holds-vcns}
use Rattle.ntfs_make.proofs.laws.areas_hold_their_vcns.Goals as goal

pub returns : goal.returns
returns c = holds-vcns
