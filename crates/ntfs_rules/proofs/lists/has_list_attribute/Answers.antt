use Rattle.std.proofs.Common.{◌∙◌, ap, List, map}
use Rattle.std.specs.List.{list_any}
use Rattle.ntfs_rules.proofs.ListLemmas.{list-found, list-none, list-passed, shows_list}
use Rattle.ntfs_rules.proofs.lists.has_list_attribute.Goals as goal
use Rattle.ntfs_record.specs.Views.{Placed, shown_placed, shown_view}

pub attributes-init : goal.attributes-init
attributes-init c = record {
  can = tt;
  finite = tt;
  same = ap (λ (items : List Placed). list_any shows_list (map shown_placed items)) (c.into_iter-attribute-iterator.ensures.into_iter_gives ∙ c.attributes-attribute-items.ensures.placed);
}

pub returns-then-attribute-eq32 : goal.returns-then-attribute-eq32
returns-then-attribute-eq32 c = list-found _ _ (shown_view c.in-Some.attribute) _ c.attributes.invariant.same c.in-Some.ensures.steps c.if-attribute-eq32.true

pub attributes-preserved : goal.attributes-preserved
attributes-preserved c = record {
  can = tt;
  finite = tt;
  same = list-passed _ _ (shown_view c.in-Some.attribute) _ c.attributes.invariant.same c.in-Some.ensures.steps c.if-attribute-eq32.false;
}

pub returns : goal.returns
returns c = list-none _ _ c.attributes.invariant.same c.in-None.ensures.steps.0
