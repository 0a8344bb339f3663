use Rattle.std.proofs.Common.{refl}
use Rattle.ntfs_words.proofs.laws.unknown_tools_are_refused.Goals as goal

pub returns-clause-words : goal.returns-clause-words
returns-clause-words c word words none = rw none refl
