use Rattle.ntfs_volume.proofs.MappedLemmas.{extents-mapped}
use Rattle.ntfs_volume.proofs.laws.extents_of_mapped_records.Goals as goal

pub returns : goal.returns
returns g c = extents-mapped
