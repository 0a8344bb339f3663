use Rattle.std.proofs.Common.{◌++◌, ◌∙◌, List, ap, sym, map}
use Rattle.ntfs_check_files.proofs.MemberLemmas.{keep-end, keep-step, skip-step}
use Rattle.ntfs_check_files.proofs.members.keep_attributes.Goals as goal
use Rattle.ntfs_check_files.specs.Members.{shown_but, shown_member, told_member}
use Rattle.ntfs_record.specs.Views.{Placed, shown_placed, shown_view}

pub attributes-init : goal.attributes-init
attributes-init c = record {
  can = tt;
  finite = tt;
  same = ap (λ (items : List Placed). map told_member c.args.kept.now.items ++ map (shown_member c.args.number c.args.view.now.head.sequence) (shown_but c.args.skips (map shown_placed items)))
      (c.into_iter-attribute-iterator.ensures.into_iter_gives ∙ c.attributes-attribute-items.ensures.placed);
}

pub attributes-preserved-then-is_skipped : goal.attributes-preserved-then-is_skipped
attributes-preserved-then-is_skipped c = record {
  can = tt;
  finite = tt;
  same = skip-step (shown_member c.args.number c.args.view.now.head.sequence) c.attributes.kept.items _ (map shown_placed c.next.new.self) (shown_view c.in-Some.attribute) c.attributes.skipping _ c.in-Some.ensures.steps
      (sym c.is_skipped.ensures ∙ c.if-is_skipped.true) c.attributes.invariant.same;
}

pub attributes-preserved : goal.attributes-preserved
attributes-preserved c = record {
  can = tt;
  finite = tt;
  same = keep-step (shown_member c.args.number c.args.view.now.head.sequence) c.attributes.kept.items c.push.new.self.items c.in_ok-member.member _ (map shown_placed c.next.new.self) (shown_view c.in-Some.attribute)
      c.attributes.skipping _ c.in_ok-push.ensures.items
      (c.in_ok-member.ensures ∙ ap (λ q. shown_member c.args.number q (shown_view c.in-Some.attribute)) c.sequence-sequence.ensures) c.in-Some.ensures.steps
      (sym c.is_skipped.ensures ∙ c.if-is_skipped.false) c.attributes.invariant.same;
}

pub returns : goal.returns
returns c = keep-end (shown_member c.args.number c.args.view.now.head.sequence) c.attributes.kept.items _ c.attributes.skipping _ c.in-None.ensures.steps.0 c.attributes.invariant.same
