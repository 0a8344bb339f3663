use Rattle.ntfs_base.proofs.SinkLemmas.{put_then}
use Rattle.ntfs_run.proofs.message.put_named.Goals as goal

pub returns-clause-put : goal.returns-clause-put
returns-clause-put g c = put_then _ _ _ _ _ _ _ c.in_ok-put.ensures.put c.put_name.ensures.put
