use Rattle.ntfs_volume.proofs.StreamLemmas.{gathered-readable}
use Rattle.ntfs_volume.proofs.laws.streams_are_readable.Goals as goal

pub returns : goal.returns
returns c = gathered-readable
