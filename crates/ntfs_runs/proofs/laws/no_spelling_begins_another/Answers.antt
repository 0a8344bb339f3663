use Rattle.ntfs_runs.proofs.LawLemmas.{no-front, one-reading}
use Rattle.ntfs_runs.proofs.laws.no_spelling_begins_another.Goals as goal

pub returns-clause-front : goal.returns-clause-front
returns-clause-front c = no-front

pub returns-clause-one : goal.returns-clause-one
returns-clause-one c = one-reading
