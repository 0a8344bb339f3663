use Rattle.std.proofs.Common.{rules}
use Rattle.ntfs_base.proofs.SinkLemmas.{put_whole, put_front, put_none}
use Rattle.ntfs_base.proofs.memory.sink.MemSinkSink.put.Goals as goal

pub returns-then-is_err-clause-put : goal.returns-then-is_err-clause-put
returns-then-is_err-clause-put c = put_none _ _ _ _ _ (search rules)

pub returns-then-is_some-clause-put : goal.returns-then-is_some-clause-put
returns-then-is_some-clause-put c = put_front c.next-planned.result _ _ _ _ _ (search rules)

pub returns-clause-put : goal.returns-clause-put
returns-clause-put c = put_whole _ _ _ _ _ (search rules)
