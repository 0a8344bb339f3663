use Rattle.std.proofs.lemmas.Cmp.{tied_itself}
use Rattle.ntfs_upcase.proofs.CollationLemmas.{collate-total, collate-equal}
use Rattle.ntfs_upcase.proofs.laws.collation_is_a_total_order.Goals as goal

pub returns-clause-order : goal.returns-clause-order
returns-clause-order c = collate-total

pub returns-clause-reflexive : goal.returns-clause-reflexive
returns-clause-reflexive c = λ table a. tied_itself (collate-total table) a

pub returns-clause-antisymmetric : goal.returns-clause-antisymmetric
returns-clause-antisymmetric c = collate-equal
