use Rattle.ntfs_volume.proofs.ExtentsLemmas.{extents-same, streams-same}
use Rattle.ntfs_volume.proofs.laws.gathering_reads_its_records_alone.Goals as goal

pub returns-clause-extents : goal.returns-clause-extents
returns-clause-extents g c = extents-same

pub returns-clause-streams : goal.returns-clause-streams
returns-clause-streams g c = streams-same
