use Rattle.ntfs_volume.proofs.ToldLemmas.{gathered-agree}
use Rattle.ntfs_volume.proofs.laws.streams_agree.Goals as goal

pub returns : goal.returns
returns c = gathered-agree
