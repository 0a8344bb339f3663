use Rattle.std.proofs.Common.{sym, ap, subst, ◌∙◌, List, map, arith, length}
use Rattle.std.specs.Prelude.{All}
use Rattle.ntfs_record.specs.Views.{HasBounds, Placed, shown_placed, shown_view}
use Rattle.ntfs_volume.specs.Gathering.{shown_parts, shown_parts_of}
use Rattle.ntfs_volume.proofs.ListLemmas.{all-first, all-rest}
use Rattle.ntfs_volume.proofs.GatherLemmas.{own-end, own-less, own-other, own-taken}
use Rattle.ntfs_volume.proofs.gather.take_own.Goals as goal

pub attributes-init : goal.attributes-init
attributes-init c = record {
  can = tt;
  finite = tt;
  bounds = subst (λ (ps : List Placed). All HasBounds (map shown_placed ps)) (sym c.into_iter-attribute-iterator.ensures.into_iter_gives) c.attributes-attribute-items.ensures.bounds;
  count = let same = ap (λ (ps : List Placed). length ps) c.into_iter-attribute-iterator.ensures.into_iter_gives in omega (arith, same, c.requires.none, c.attributes-attribute-items.ensures.few);
  are = c.requires.parts;
  same = ap (λ (ps : List Placed). shown_parts_of c.args.clusters c.args.goal.now.number c.args.goal.now.kind c.args.goal.now.name.now (map shown_placed ps) (shown_parts c.args.parts.now)) (c.into_iter-attribute-iterator.ensures.into_iter_gives ∙ c.attributes-attribute-items.ensures.placed);
}

pub take-requires-clause-count : goal.take-requires-clause-count
take-requires-clause-count c = let less = own-less _ c.next.new.self (shown_view c.in-Some.attribute) c.in-Some.ensures.steps in omega (arith, less, c.attributes.invariant.count)

pub take-requires-clause-vcns : goal.take-requires-clause-vcns
take-requires-clause-vcns c = (all-first HasBounds _ (map shown_placed c.next.new.self) (shown_view c.in-Some.attribute) c.in-Some.ensures.steps c.attributes.invariant.bounds).next

pub attributes-preserved-in-Continue-1 : goal.attributes-preserved-in-Continue-1
attributes-preserved-in-Continue-1 c =
    let taken_is = own-taken c.args.clusters c.args.goal.now.number c.args.goal.now.kind c.args.goal.now.name.now _ (map shown_placed c.next.new.self) (shown_view c.in-Some.attribute) (shown_parts c.attributes.parts) (shown_parts c.take.new.self) c.in-Some.ensures.steps (sym c.is_of.ensures ∙ c.if-is_of.true) c.in_ok-take.ensures.shown in
    let less = own-less _ c.next.new.self (shown_view c.in-Some.attribute) c.in-Some.ensures.steps in
    record {
      can = tt;
      finite = tt;
      bounds = all-rest HasBounds _ (map shown_placed c.next.new.self) (shown_view c.in-Some.attribute) c.in-Some.ensures.steps c.attributes.invariant.bounds;
      count = omega (arith, less, c.attributes.invariant.count, taken_is.1);
      are = c.in_ok-take.ensures.parts;
      same = sym taken_is.0 ∙ c.attributes.invariant.same;
    }

pub attributes-preserved : goal.attributes-preserved
attributes-preserved c =
    let less = own-less _ c.next.new.self (shown_view c.in-Some.attribute) c.in-Some.ensures.steps in
    record {
      can = tt;
      finite = tt;
      bounds = all-rest HasBounds _ (map shown_placed c.next.new.self) (shown_view c.in-Some.attribute) c.in-Some.ensures.steps c.attributes.invariant.bounds;
      count = omega (arith, less, c.attributes.invariant.count);
      are = c.attributes.invariant.are;
      same = sym (own-other c.args.clusters c.args.goal.now.number c.args.goal.now.kind c.args.goal.now.name.now _ (map shown_placed c.next.new.self) (shown_view c.in-Some.attribute) (shown_parts c.attributes.parts) c.in-Some.ensures.steps (sym c.is_of.ensures ∙ c.if-is_of.false)) ∙ c.attributes.invariant.same;
    }

pub returns-clause-shown : goal.returns-clause-shown
returns-clause-shown c =
    sym (own-end c.args.clusters c.args.goal.now.number c.args.goal.now.kind c.args.goal.now.name.now _ (shown_parts c.attributes.parts) c.in-None.ensures.steps.0) ∙ c.attributes.invariant.same

pub returns-clause-parts : goal.returns-clause-parts
returns-clause-parts c = c.attributes.invariant.are
