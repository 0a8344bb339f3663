use Rattle.std.proofs.Common.{ap, ◌∙◌, ◌||◌, arith}
use Rattle.ntfs_bitmap.specs.ClusterSet.{has}
use Rattle.ntfs_bitmap.proofs.LawLemmas.{has-empty}
use Rattle.ntfs_owners.specs.Owners.{owns}
use Rattle.ntfs_owners.proofs.CoverLemmas.{count-below-le, count-has, owners-last, owners-next}
use Rattle.ntfs_owners.proofs.cover.owned_count.Goals as goal

pub owners-init : goal.owners-init
owners-init c = record {
  bound = c.in_ok-set.ensures.bound;
  added = λ k below. ap (λ b. b || owns c.args.owners.now k) (ap (λ set. has set k) c.in_ok-set.ensures.empty ∙ has-empty c.args.bound k);
}

pub owners-preserved : goal.owners-preserved
owners-preserved c = record {
  bound = c.in_ok-add_row.ensures.bound;
  added = λ k below. owners-next c.args.owners.now c.owners.owner-index k _ _ _ _ c.owners-test.true (c.in_ok-add_row.ensures.added k below) (c.owners.invariant.added k below);
}

pub returns-clause-count : goal.returns-clause-count
returns-clause-count c =
    c.count_below.ensures ∙ count-has c.owners.set (owns c.args.owners.now) c.args.bound
    (λ k below. owners-last c.args.owners.now c.owners.owner-index k _ _ c.owners-test.false (c.owners.invariant.added k below))

pub returns-clause-most : goal.returns-clause-most
returns-clause-most c = omega (arith, c.count_below.ensures, count-below-le c.owners.set c.args.bound)
