use Rattle.ntfs_host.proofs.UntoldLemmas.{set_untold, unset_untold}
use Rattle.ntfs_host.proofs.disk_file.DiskFileHostFile.set_len.Goals as goal

pub returns-in-Ok-clause-set : goal.returns-in-Ok-clause-set
returns-in-Ok-clause-set c = set_untold _ _ _ _

pub returns-in-Err-clause-set : goal.returns-in-Err-clause-set
returns-in-Err-clause-set c = unset_untold _ _ _ _
