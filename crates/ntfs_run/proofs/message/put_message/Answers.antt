use Rattle.ntfs_base.proofs.SinkLemmas.{put_no_bytes}
use Rattle.ntfs_run.proofs.message.put_message.Goals as goal

pub returns-in-Done-clause-put : goal.returns-in-Done-clause-put
returns-in-Done-clause-put g c = rw c.in-Done.is (put_no_bytes _ _)
