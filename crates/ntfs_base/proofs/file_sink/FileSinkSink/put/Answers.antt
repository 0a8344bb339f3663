use Rattle.ntfs_base.proofs.GrowthLemmas.{put_appended}
use Rattle.ntfs_base.proofs.file_sink.FileSinkSink.put.Goals as goal

pub returns-in-Ok-clause-put : goal.returns-in-Ok-clause-put
returns-in-Ok-clause-put g c = put_appended _ _ _ _ c.in-Ok.ensures.appended

pub returns-in-Err-Failed-clause-put : goal.returns-in-Err-Failed-clause-put
returns-in-Err-Failed-clause-put g c =
    put_appended _ _ _ _ (rw c.in-Err-Failed.field-0-is at c.in-Err-Failed.ensures.appended)

pub returns-in-Err-NoMemory-clause-put : goal.returns-in-Err-NoMemory-clause-put
returns-in-Err-NoMemory-clause-put g c =
    put_appended _ _ _ _ (rw c.in-Err-NoMemory.field-0-is at c.in-Err-NoMemory.ensures.appended)
