use Rattle.std.proofs.Common.{sym, ap, subst, ◌∙◌, List, map}
use Rattle.std.specs.Prelude.{All, find}
use Rattle.ntfs_attrlist.specs.Views.{shown_entry}
use Rattle.ntfs_record.specs.Views.{HasBounds, Placed, shown_placed, shown_view}
use Rattle.ntfs_volume.specs.Gathering.{is_meant}
use Rattle.ntfs_volume.proofs.ListLemmas.{all-first, all-rest, find-skip, find-take}
use Rattle.ntfs_volume.proofs.gather.find_extent.Goals as goal

pub attributes-init : goal.attributes-init
attributes-init c = record {
  can = tt;
  finite = tt;
  bounds = subst (λ (ps : List Placed). All HasBounds (map shown_placed ps)) (sym c.into_iter-attribute-iterator.ensures.into_iter_gives) c.attributes-attribute-items.ensures.bounds;
  same = ap (λ (ps : List Placed). find (is_meant (shown_entry c.args.entry.now)) (map shown_placed ps)) (c.into_iter-attribute-iterator.ensures.into_iter_gives ∙ c.attributes-attribute-items.ensures.placed);
}

pub attributes-preserved : goal.attributes-preserved
attributes-preserved c = record {
  can = tt;
  finite = tt;
  bounds = all-rest HasBounds _ (map shown_placed c.next.new.self) (shown_view c.in-Some.attribute) c.in-Some.ensures.steps c.attributes.invariant.bounds;
  same = find-skip (is_meant (shown_entry c.args.entry.now)) _ (map shown_placed c.next.new.self) (shown_view c.in-Some.attribute) _ c.in-Some.ensures.steps (sym c.is_meant.ensures ∙ c.if-is_meant.false) c.attributes.invariant.same;
}

pub returns-then-is_meant-clause-found : goal.returns-then-is_meant-clause-found
returns-then-is_meant-clause-found c =
    find-take (is_meant (shown_entry c.args.entry.now)) _ (map shown_placed c.next.new.self) (shown_view c.in-Some.attribute) _ c.in-Some.ensures.steps (sym c.is_meant.ensures ∙ c.if-is_meant.true) c.attributes.invariant.same

pub returns-then-is_meant-clause-bounds : goal.returns-then-is_meant-clause-bounds
returns-then-is_meant-clause-bounds c = all-first HasBounds _ (map shown_placed c.next.new.self) (shown_view c.in-Some.attribute) c.in-Some.ensures.steps c.attributes.invariant.bounds

pub returns-clause-found : goal.returns-clause-found
returns-clause-found c = sym (ap (λ xs. find (is_meant (shown_entry c.args.entry.now)) xs) c.in-None.ensures.steps.0) ∙ c.attributes.invariant.same
