use Rattle.std.proofs.Common.{map}
use Rattle.std.proofs.lemmas.List.Elements.{All-rest}
use Rattle.ntfs_record.specs.Views.{HasBounds, shown_placed, shown_view}
use Rattle.ntfs_survey.proofs.RecordLemmas.{attributes-last, attributes-next}
use Rattle.ntfs_survey.proofs.records.take_attributes.Goals as goal

pub attributes-preserved : goal.attributes-preserved
attributes-preserved c = record {
  can = tt;
  finite = tt;
  bounds = All-rest HasBounds (shown_view c.in-Some.attribute) (map shown_placed c.next.new.self) (map shown_placed c.attributes.attribute-iterator) c.in-Some.ensures.steps c.attributes.invariant.bounds;
  same = attributes-next c.args.clusters c.args.number (map shown_placed c.attributes.attribute-iterator) (map shown_placed c.next.new.self) (shown_view c.in-Some.attribute) c.attributes.findings c.take.new.self _ c.in-Some.ensures.steps c.in_ok-take.ensures c.attributes.invariant.same;
}

pub returns : goal.returns
returns c = attributes-last c.args.clusters c.args.number (map shown_placed c.attributes.attribute-iterator) c.attributes.findings _ c.in-None.ensures.steps.0 c.attributes.invariant.same
