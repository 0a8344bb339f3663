use Rattle.ntfs_words.proofs.LawLemmas.{unknown}
use Rattle.ntfs_words.proofs.laws.unknown_options_are_refused.Goals as goal

pub returns : goal.returns
returns c = unknown
