use Rattle.ntfs_host.proofs.UntoldLemmas.{wrote_untold}
use Rattle.ntfs_host.proofs.disk_file.DiskFileImage.write_at.Goals as goal

pub returns-clause-wrote : goal.returns-clause-wrote
returns-clause-wrote c = wrote_untold _ _ _ _
