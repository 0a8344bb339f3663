use Rattle.ntfs_host.proofs.UntoldLemmas.{appended_untold, front_untold}
use Rattle.ntfs_host.proofs.disk_file.DiskFileHostFile.append.Goals as goal

pub returns-in-Ok-clause-appended : goal.returns-in-Ok-clause-appended
returns-in-Ok-clause-appended c = appended_untold _ _ _ _ _
    (rw c.in-Ok.ensures.value at c.write_behind-end.ensures.whole)

pub returns-in-Err-clause-appended : goal.returns-in-Err-clause-appended
returns-in-Err-clause-appended c =
    front_untold _ _ _ _ _ c.write_behind-end.ensures.least c.write_behind-end.ensures.most
