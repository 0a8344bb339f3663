use Rattle.ntfs_check_fixed.proofs.FactLemmas.{last-end, next-end, no_owner}
use Rattle.ntfs_check_fixed.proofs.known.owned_end.Goals as goal

pub owners-preserved : goal.owners-preserved
owners-preserved c = λ n few lies.
    next-end c.args.number c.args.owners.now c.owners.owner-index _ c.owners.end c.end_in.result c.max-end.result c.owners-test.true (c.end_in.ensures n few (lies c.owners.owner-index no_owner c.owners-test.true)) c.max-end.ensures
    (c.owners.invariant n few lies)

pub returns : goal.returns
returns c = λ n few lies. last-end c.args.number c.args.owners.now c.owners.owner-index _ c.owners.end c.owners-test.false (c.owners.invariant n few lies)
