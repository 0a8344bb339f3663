use Rattle.ntfs_runs.specs.Canon.{runs_of}
use Rattle.ntfs_runs.proofs.LawLemmas.{canon-spells, canon-back, runs_of-AreMaximal, vcns-runs_of}
use Rattle.ntfs_runs.proofs.laws.canon_is_read_back.Goals as goal

pub returns-clause-spelled : goal.returns-clause-spelled
returns-clause-spelled c cells are = (runs_of cells, canon-spells cells are, runs_of-AreMaximal cells, vcns-runs_of cells)

pub returns-clause-back : goal.returns-clause-back
returns-clause-back c = canon-back
