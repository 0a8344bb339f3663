use Rattle.std.proofs.Common.{false}
use Rattle.ntfs_bitmap.proofs.SetLemmas.{bound-claimed, bound-set_where}
use Rattle.ntfs_bitmap.proofs.LawLemmas.{claimed-has, has-empty}
use Rattle.ntfs_bitmap.proofs.laws.claims_add_their_runs.Goals as goal

pub returns-clause-empty_bound : goal.returns-clause-empty_bound
returns-clause-empty_bound c = λ bound. bound-set_where bound (λ _. false)

pub returns-clause-empty : goal.returns-clause-empty
returns-clause-empty c = has-empty

pub returns-clause-bound : goal.returns-clause-bound
returns-clause-bound c = bound-claimed

pub returns-clause-claimed : goal.returns-clause-claimed
returns-clause-claimed c = claimed-has
