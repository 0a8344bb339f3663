use Rattle.ntfs_runs.proofs.CauseLemmas.{wrong-caused, caused-wrong}
use Rattle.ntfs_runs.proofs.laws.wrong_headers_have_causes.Goals as goal

pub returns : goal.returns
returns c last room bytes = (wrong-caused last room bytes, caused-wrong last room bytes)
