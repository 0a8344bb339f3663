use Rattle.ntfs_check_fixed.proofs.RowLemmas.{value-none}
use Rattle.ntfs_check_fixed.proofs.known.value_of.Goals as goal

pub returns-in-None : goal.returns-in-None
returns-in-None c = λ none. value-none c.args.stream.now.stream none c.in-None.ensures
