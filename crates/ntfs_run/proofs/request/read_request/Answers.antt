use Rattle.ntfs_run.proofs.ApartLemmas.{apart_read}
use Rattle.ntfs_run.proofs.request.read_request.Goals as goal

pub returns-clause-apart : goal.returns-clause-apart
returns-clause-apart c = apart_read _ c.read_words.result c.read_words.ensures.reads c.read_words.ensures.tool
