use Rattle.ntfs_runs.proofs.LawLemmas.{canon-read}
use Rattle.ntfs_runs.proofs.laws.canon_is_read_before_padding.Goals as goal

pub returns : goal.returns
returns c = canon-read
