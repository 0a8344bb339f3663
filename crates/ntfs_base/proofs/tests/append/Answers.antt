use Rattle.ntfs_base.proofs.GrowthLemmas.{Appended-name}
use Rattle.ntfs_base.proofs.tests.append.Goals as goal

pub returns : goal.returns
returns g c = Appended-name _ _ _ _ c.append.ensures.appended
