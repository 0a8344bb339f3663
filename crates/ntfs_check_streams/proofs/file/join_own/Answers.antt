use Rattle.std.proofs.Common.{◌∙◌, ap, List, map, sym}
use Rattle.ntfs_check_streams.proofs.WalkLemmas.{shown-end, shown-other, shown-taken}
use Rattle.ntfs_check_streams.proofs.file.join_own.Goals as goal
use Rattle.ntfs_check_streams.specs.Join.{join, join_shown}
use Rattle.ntfs_check_streams.specs.declared.join.Joined.TheVariants as joined
use Rattle.ntfs_check_streams.specs.declared.join.Span.{Span}
use Rattle.ntfs_record.specs.Views.{Placed, shown_placed, shown_view}

pub attributes-init : goal.attributes-init
attributes-init c = record {
  can = tt;
  finite = tt;
  same = ap (λ (items : List Placed). join_shown c.args.kind c.args.name.now joined.Nothing (map shown_placed items)) (c.into_iter-attribute-iterator.ensures.into_iter_gives ∙ c.attributes-attribute-items.ensures.placed);
}

pub attributes-preserved-then-is_of : goal.attributes-preserved-then-is_of
attributes-preserved-then-is_of c = record {
  can = tt;
  finite = tt;
  same = shown-taken c.args.kind c.args.name.now c.attributes.all c.join-all.result _ _ (map shown_placed c.next.new.self) (shown_view c.in-Some.attribute) c.attributes.invariant.same c.in-Some.ensures.steps (sym c.is_of.ensures ∙ c.if-is_of.true)
      (c.join-all.ensures ∙ ap (λ (s : Span). join c.args.kind c.attributes.all s) c.span_of.ensures);
}

pub attributes-preserved : goal.attributes-preserved
attributes-preserved c = record {
  can = tt;
  finite = tt;
  same = shown-other c.args.kind c.args.name.now c.attributes.all _ _ (map shown_placed c.next.new.self) (shown_view c.in-Some.attribute) c.attributes.invariant.same c.in-Some.ensures.steps (sym c.is_of.ensures ∙ c.if-is_of.false);
}

pub returns : goal.returns
returns c = shown-end c.args.kind c.args.name.now c.attributes.all _ _ c.attributes.invariant.same c.in-None.ensures.steps.0
