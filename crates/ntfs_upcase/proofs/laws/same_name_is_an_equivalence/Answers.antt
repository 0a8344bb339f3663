use Rattle.std.specs.Cmp.{eq_by_cmp_equiv, Equal-is}
use Rattle.ntfs_upcase.specs.Collation.{same_name, collate}
use Rattle.ntfs_upcase.proofs.CollationLemmas.{collate-total, collate-equal}
use Rattle.ntfs_upcase.proofs.laws.same_name_is_an_equivalence.Goals as goal

pub returns-clause-equivalence : goal.returns-clause-equivalence
unfolding same_name
returns-clause-equivalence c = λ table. eq_by_cmp_equiv (collate-total table)

pub returns-clause-mapped : goal.returns-clause-mapped
unfolding same_name
returns-clause-mapped c = λ table a b.
    let told = Equal-is (collate table a b) in
    let equal = collate-equal table a b in
    (λ same. equal.0 (told.0 same), λ mapped. told.1 (equal.1 mapped))
