use Rattle.ntfs_base.proofs.WritesLemmas.{Wrote-name}
use Rattle.ntfs_base.proofs.tests.write.Goals as goal

pub returns : goal.returns
returns g c = Wrote-name _ _ _ _ c.write_at.ensures.wrote
