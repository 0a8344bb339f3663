use Rattle.std.proofs.Common.{map}
use Rattle.std.proofs.lemmas.List.Elements.{All-rest}
use Rattle.ntfs_record.specs.Views.{HasBounds, shown_placed, shown_view}
use Rattle.ntfs_owners.specs.Held.{held_of, wants_runs}
use Rattle.ntfs_owners.proofs.HeldLemmas.{attributes-last, attributes-next}
use Rattle.ntfs_owners.proofs.held.add_attributes.Goals as goal

pub attributes-preserved : goal.attributes-preserved
attributes-preserved c = record {
  can = tt;
  finite = tt;
  bounds = All-rest HasBounds (shown_view c.in-Some.attribute) (map shown_placed c.next.new.self) (map shown_placed c.attributes.attribute-iterator) c.in-Some.ensures.steps c.attributes.invariant.bounds;
  same = attributes-next (wants_runs c.args.wanted.now) c.args.number (map shown_placed c.attributes.attribute-iterator) (map shown_placed c.next.new.self) (shown_view c.in-Some.attribute)
      (map held_of c.attributes.held.items) (map held_of c.add_attribute.new.held.items) _ c.in-Some.ensures.steps c.in_ok-add_attribute.ensures c.attributes.invariant.same;
}

pub returns : goal.returns
returns c = attributes-last (wants_runs c.args.wanted.now) c.args.number (map shown_placed c.attributes.attribute-iterator) (map held_of c.attributes.held.items) _ c.in-None.ensures.steps.0 c.attributes.invariant.same
