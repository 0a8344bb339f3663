use Rattle.ntfs_upcase.proofs.CollationLemmas.{collate-prefix}
use Rattle.ntfs_upcase.proofs.laws.a_prefix_comes_first.Goals as goal

pub returns : goal.returns
returns c = collate-prefix
