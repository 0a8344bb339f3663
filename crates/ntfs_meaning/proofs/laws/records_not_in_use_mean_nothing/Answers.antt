use Rattle.ntfs_meaning.proofs.IdleLemmas.{meant-idle, meant-live}
use Rattle.ntfs_meaning.proofs.laws.records_not_in_use_mean_nothing.Goals as goal

pub returns-clause-idle : goal.returns-clause-idle
returns-clause-idle c = meant-idle

pub returns-clause-live : goal.returns-clause-live
returns-clause-live c = meant-live
