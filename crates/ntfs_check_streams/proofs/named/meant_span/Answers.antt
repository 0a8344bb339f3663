use Rattle.std.proofs.Common.{◌∙◌, ap, List, map, Option, Some, sym}
use Rattle.std.specs.Option.{option_map}
use Rattle.std.specs.Prelude.{find}
use Rattle.ntfs_attrlist.specs.Views.{shown_entry}
use Rattle.ntfs_check_streams.proofs.named.meant_span.Goals as goal
use Rattle.ntfs_check_streams.proofs.NamedLemmas.{shown_span}
use Rattle.ntfs_record.specs.Views.{Placed, Shown, shown_placed, shown_view}
use Rattle.ntfs_volume.proofs.ListLemmas.{find-skip, find-take}
use Rattle.ntfs_volume.specs.Gathering.{is_meant}

pub attributes-init : goal.attributes-init
attributes-init c = record {
  can = tt;
  finite = tt;
  same = ap (λ (ps : List Placed). find (is_meant (shown_entry c.args.entry.now)) (map shown_placed ps)) (c.into_iter-attribute-iterator.ensures.into_iter_gives ∙ c.attributes-attribute-items.ensures.placed);
}

pub attributes-preserved : goal.attributes-preserved
attributes-preserved c = record {
  can = tt;
  finite = tt;
  same = find-skip (is_meant (shown_entry c.args.entry.now)) _ (map shown_placed c.next.new.self) (shown_view c.in-Some.attribute) _ c.in-Some.ensures.steps (sym c.is_meant.ensures ∙ c.if-is_meant.false) c.attributes.invariant.same;
}

pub returns-then-is_meant : goal.returns-then-is_meant
returns-then-is_meant c =
    ap Some c.span_of.ensures
    ∙ ap (λ (found : Option Shown). option_map shown_span found)
    (find-take (is_meant (shown_entry c.args.entry.now)) _ (map shown_placed c.next.new.self) (shown_view c.in-Some.attribute) _ c.in-Some.ensures.steps (sym c.is_meant.ensures ∙ c.if-is_meant.true) c.attributes.invariant.same)

pub returns : goal.returns
returns c =
    ap (λ (found : Option Shown). option_map shown_span found)
    (sym (ap (λ (xs : List Shown). find (is_meant (shown_entry c.args.entry.now)) xs) c.in-None.ensures.steps.0) ∙ c.attributes.invariant.same)
