use Rattle.std.proofs.Common.{sym, ap, subst, ◌∙◌, List, map}
use Rattle.std.specs.Prelude.{All, find}
use Rattle.ntfs_record.specs.Views.{HasBounds, Placed, shown_placed, shown_view}
use Rattle.ntfs_volume.specs.Views.{is_wanted, told_view, unplaced}
use Rattle.ntfs_volume.proofs.ListLemmas.{all-first, all-rest, find-skip, find-take, placed-told}
use Rattle.ntfs_volume.proofs.wanted.first_of.Goals as goal

pub attributes-init : goal.attributes-init
attributes-init c = record {
  can = tt;
  finite = tt;
  bounds = subst (λ (ps : List Placed). All HasBounds (map shown_placed ps)) (sym c.into_iter-attribute-iterator.ensures.into_iter_gives) c.attributes-attribute-items.ensures.bounds;
  same = ap (λ (ps : List Placed). find (is_wanted c.args.wanted) (map unplaced (map shown_placed ps))) c.into_iter-attribute-iterator.ensures.into_iter_gives
      ∙ ap (find (is_wanted c.args.wanted)) (placed-told c.attributes-attribute-items.result c.args.view.now c.attributes-attribute-items.ensures.raws);
}

pub attributes-preserved : goal.attributes-preserved
attributes-preserved c = record {
  can = tt;
  finite = tt;
  bounds = all-rest HasBounds _ (map shown_placed c.next.new.self) (shown_view c.in-Some.attribute) c.in-Some.ensures.steps c.attributes.invariant.bounds;
  same = find-skip (is_wanted c.args.wanted) _ (map unplaced (map shown_placed c.next.new.self)) (told_view c.in-Some.attribute) _ (ap (map unplaced) c.in-Some.ensures.steps) (sym c.is_wanted.ensures ∙ c.if-is_wanted.false) c.attributes.invariant.same;
}

pub returns-then-is_wanted-clause-found : goal.returns-then-is_wanted-clause-found
returns-then-is_wanted-clause-found c =
    find-take (is_wanted c.args.wanted) _ (map unplaced (map shown_placed c.next.new.self)) (told_view c.in-Some.attribute) _ (ap (map unplaced) c.in-Some.ensures.steps) (sym c.is_wanted.ensures ∙ c.if-is_wanted.true) c.attributes.invariant.same

pub returns-then-is_wanted-clause-lowest : goal.returns-then-is_wanted-clause-lowest
returns-then-is_wanted-clause-lowest c = (all-first HasBounds _ (map shown_placed c.next.new.self) (shown_view c.in-Some.attribute) c.in-Some.ensures.steps c.attributes.invariant.bounds).lowest

pub returns-clause-found : goal.returns-clause-found
returns-clause-found c = sym (ap (λ xs. find (is_wanted c.args.wanted) (map unplaced xs)) c.in-None.ensures.steps.0) ∙ c.attributes.invariant.same
