use Rattle.ntfs_runs.proofs.LawLemmas.{canon-least}
use Rattle.ntfs_runs.proofs.laws.canon_is_shortest.Goals as goal

pub returns : goal.returns
returns c = canon-least
