use Rattle.std.proofs.Common.{◌∙◌, ap, List, map, sym}
use Rattle.std.specs.List.{list_all}
use Rattle.ntfs_check_streams.proofs.WalkLemmas.{all-end, all-failed, all-passed}
use Rattle.ntfs_check_streams.proofs.file.are_own.Goals as goal
use Rattle.ntfs_check_streams.specs.Join.{is_stream}
use Rattle.ntfs_check_streams.specs.Said.{are_own, shown_in}
use Rattle.ntfs_record.specs.Views.{Placed, shown_placed, shown_view}

pub attributes-init : goal.attributes-init
attributes-init c = record {
  can = tt;
  finite = tt;
  same = ap (λ (items : List Placed). list_all (are_own c.args.cluster (shown_in c.args.view.now)) (map shown_placed items)) (c.into_iter-attribute-iterator.ensures.into_iter_gives ∙ c.attributes-attribute-items.ensures.placed);
}

pub returns-then-not-is_stream : goal.returns-then-not-is_stream
returns-then-not-is_stream c =
    all-failed (are_own c.args.cluster (shown_in c.args.view.now)) _ _ c.attributes.invariant.same (shown_view c.in-Some.attribute) (map shown_placed c.next.new.self) c.in-Some.ensures.steps
    (sym (c.is_stream.ensures ∙ ap (is_stream c.args.cluster) c.join_own.ensures) ∙ c.if-not-is_stream.true)

pub attributes-preserved : goal.attributes-preserved
attributes-preserved c = record {
  can = tt;
  finite = tt;
  same = all-passed (are_own c.args.cluster (shown_in c.args.view.now)) _ _ c.attributes.invariant.same (shown_view c.in-Some.attribute) (map shown_placed c.next.new.self) c.in-Some.ensures.steps
      (sym (c.is_stream.ensures ∙ ap (is_stream c.args.cluster) c.join_own.ensures) ∙ c.if-not-is_stream.false);
}

pub returns : goal.returns
returns c = all-end (are_own c.args.cluster (shown_in c.args.view.now)) _ _ c.attributes.invariant.same c.in-None.ensures.steps.0
