use Rattle.std.proofs.Common.{sym, ap, ◌∙◌, Err}
use Rattle.ntfs_attrlist.specs.Views.{shown_entry}
use Rattle.ntfs_record.specs.Views.{shown_view}
use Rattle.ntfs_volume.specs.Gathering.{Progress, shown_part, shown_parts}
use Rattle.ntfs_volume.proofs.GatherLemmas.{part-found, part-missing, part-stranger, taken-count}
use Rattle.ntfs_volume.proofs.gather.take_extent.Goals as goal

pub returns-then-not-is_member-clause-gives : goal.returns-then-not-is_member-clause-gives
returns-then-not-is_member-clause-gives c settled =
    part-stranger c.args.clusters c.args.goal.now.number c.args.goal.now.sequence (shown_entry c.args.entry.now) c.args.holder.now (shown_parts c.args.parts.now) c.is_member.result c.is_member.ensures c.if-not-is_member.true
    ∙ ap Err (sym c.bad_list.ensures)

pub returns-in-None-clause-gives : goal.returns-in-None-clause-gives
returns-in-None-clause-gives c settled =
    part-missing c.args.clusters c.args.goal.now.number c.args.goal.now.sequence (shown_entry c.args.entry.now) c.args.holder.now (shown_parts c.args.parts.now) c.is_member.result c.is_member.ensures c.if-not-is_member.false
    (sym c.in-None.ensures.found) ∙ ap Err (sym c.bad_list-in-None.ensures)

pub returns-in_ok-take-in-Some-clause-gives : goal.returns-in_ok-take-in-Some-clause-gives
returns-in_ok-take-in-Some-clause-gives c =
    part-found c.args.clusters c.args.goal.now.number c.target.result c.args.goal.now.sequence (shown_entry c.args.entry.now) c.args.holder.now (shown_parts c.args.parts.now) (shown_parts c.take.new.self) (shown_view c.in-Some.extent)
    c.is_member.result c.is_member.ensures c.if-not-is_member.false (sym c.in-Some.ensures.found) c.target.ensures c.in_ok-take-in-Some.ensures.shown

pub returns-in_ok-take-in-Some-clause-count : goal.returns-in_ok-take-in-Some-clause-count
returns-in_ok-take-in-Some-clause-count c =
    ap (λ (p : Progress). p.count) c.in_ok-take-in-Some.ensures.shown
    ∙ taken-count (shown_parts c.args.parts.now) (shown_part c.args.clusters c.target.result (shown_view c.in-Some.extent))
