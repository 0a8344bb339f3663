use Rattle.ntfs_volume.proofs.StreamLemmas.{cells-of}
use Rattle.ntfs_volume.proofs.laws.cells_are_of_members.Goals as goal

pub returns : goal.returns
returns g c = cells-of
