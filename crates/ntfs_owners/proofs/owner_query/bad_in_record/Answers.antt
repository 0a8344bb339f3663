use Rattle.std.proofs.Common.{ap, ◌∙◌, ◌||◌, map}
use Rattle.ntfs_bitmap.specs.ClusterSet.{has}
use Rattle.ntfs_bitmap.proofs.LawLemmas.{has-empty}
use Rattle.ntfs_record.specs.Views.{shown_placed, shown_view, placed_of}
use Rattle.ntfs_owners.specs.Owners.{are_bad_in}
use Rattle.ntfs_owners.proofs.CoverLemmas.{count-has}
use Rattle.ntfs_owners.proofs.OwnersLemmas.{bad-last, bad-next}
use Rattle.ntfs_owners.proofs.owner_query.bad_in_record.Goals as goal

pub attributes-init : goal.attributes-init
attributes-init c = record {
  can = tt;
  finite = tt;
  bound = c.in_ok-set.ensures.bound;
  added = λ k below. ap (λ b. b || are_bad_in (map shown_placed c.into_iter-attribute-iterator.result) k) (ap (λ set. has set k) c.in_ok-set.ensures.empty ∙ has-empty c.args.bound k)
      ∙ ap (λ ps. are_bad_in (map shown_placed ps) k) (c.into_iter-attribute-iterator.ensures.into_iter_gives ∙ c.attributes-attribute-items.ensures.placed);
}

pub attributes-preserved : goal.attributes-preserved
attributes-preserved c = record {
  can = tt;
  finite = tt;
  bound = c.in_ok-add_bad_attribute.ensures.bound;
  added = λ k below. bad-next (map shown_placed c.attributes.attribute-iterator) (map shown_placed c.next.new.self) (shown_view c.in-Some.attribute) k _ _ _
      c.in-Some.ensures.steps (c.in_ok-add_bad_attribute.ensures.added k below) (c.attributes.invariant.added k below);
}

pub returns : goal.returns
returns c =
    c.count_below.ensures ∙ count-has c.attributes.set (are_bad_in (map shown_placed (placed_of c.args.view.now))) c.args.bound
    (λ k below. bad-last (map shown_placed c.attributes.attribute-iterator) k _ _ c.in-None.ensures.steps.0 (c.attributes.invariant.added k below))
