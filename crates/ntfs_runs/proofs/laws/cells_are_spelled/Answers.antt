use Rattle.ntfs_runs.proofs.LawLemmas.{cells-spelled, cells-right, cells-wrong}
use Rattle.ntfs_runs.proofs.laws.cells_are_spelled.Goals as goal

pub returns-clause-spelled : goal.returns-clause-spelled
returns-clause-spelled c = cells-spelled

pub returns-clause-right : goal.returns-clause-right
returns-clause-right c = cells-right

pub returns-clause-wrong : goal.returns-clause-wrong
returns-clause-wrong c = cells-wrong
