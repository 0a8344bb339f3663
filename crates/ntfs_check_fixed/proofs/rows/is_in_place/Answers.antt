use Rattle.ntfs_check_fixed.proofs.RowLemmas.{none-in-place}
use Rattle.ntfs_check_fixed.proofs.rows.is_in_place.Goals as goal

pub returns-in-None : goal.returns-in-None
returns-in-None c = λ none. none-in-place c.args.stream.now.stream none c.in-None.ensures.cells
