use Rattle.ntfs_host.proofs.UntoldLemmas.{put_untold}
use Rattle.ntfs_host.proofs.output.StdOutputSink.put.Goals as goal

pub returns-in-Ok-clause-put : goal.returns-in-Ok-clause-put
returns-in-Ok-clause-put g c = put_untold _ _

pub returns-in-Err-clause-put : goal.returns-in-Err-clause-put
returns-in-Err-clause-put g c = put_untold _ _
