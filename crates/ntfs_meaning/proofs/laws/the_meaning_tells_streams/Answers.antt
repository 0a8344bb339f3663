use Rattle.ntfs_meaning.proofs.MeantLemmas.{same-bytes, same-streams, same-walks}
use Rattle.ntfs_meaning.proofs.laws.the_meaning_tells_streams.Goals as goal

pub returns-clause-streams : goal.returns-clause-streams
returns-clause-streams c = same-streams

pub returns-clause-bytes : goal.returns-clause-bytes
returns-clause-bytes c = same-bytes

pub returns-clause-walks : goal.returns-clause-walks
returns-clause-walks c = same-walks
