use Rattle.ntfs_volume.proofs.LawLemmas.{same-records}
use Rattle.ntfs_volume.proofs.laws.records_agree.Goals as goal

pub returns : goal.returns
returns c = same-records
