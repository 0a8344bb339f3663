use Rattle.std.proofs.Common.{◌++◌, true}
use Rattle.std.proofs.lemmas.Result.{err_from_is_err_and}
use Rattle.ntfs_record.specs.Views.{shown_view}
use Rattle.ntfs_print.specs.Label.{kind_and_name}
use Rattle.ntfs_show.specs.RecordInfo.{line_if_right}
use Rattle.ntfs_print.proofs.PendingLemmas.{pushes-stop}
use Rattle.ntfs_show.proofs.RecordInfoLemmas.{line-right, pushes-failed, pushes-passed, pushes-wrong}
use Rattle.ntfs_show.proofs.record_info.push_attribute.Goals as goal

pub returns-in_err-text-clause-pushes : goal.returns-in_err-text-clause-pushes
returns-in_err-text-clause-pushes g c =
    let p = err_from_is_err_and c.from_residual.result c.from_residual.ensures.1 in
    rw p.1 (pushes-stop _ c.args.pending.now c.args.pending.now (g.K.Sink.seen c.args.out.now) _)

pub returns-in_default-clause-pushes : goal.returns-in_default-clause-pushes
returns-in_default-clause-pushes g c =
    let wrong = rw c.in_default.is at c.in_ok-text.ensures in
    pushes-wrong c.args.clusters (shown_view c.args.attribute.now) c.args.pending.now (g.K.Sink.seen c.args.out.now) wrong

pub returns-in_err-push_line-clause-pushes : goal.returns-in_err-push_line-clause-pushes
returns-in_err-push_line-clause-pushes g c =
    let right = rw c.in-Some.is at c.in_ok-text.ensures in
    let shown = shown_view c.args.attribute.now in
    let p = err_from_is_err_and c.from_residual-in_err-push_line.result c.from_residual-in_err-push_line.ensures.1 in
    rw p.1 (pushes-failed (kind_and_name shown.kind shown.name ++ c.in-Some.text) (line_if_right c.args.clusters shown)
    c.args.pending.now c.push_line.new.pending c.push_line.new.pending (g.K.Sink.seen c.args.out.now) (g.K.Sink.seen c.push_line.new.out) c.in_err-push_line.field-0.0 _
    (line-right c.args.clusters shown c.in-Some.text right.0 right.1) c.in_err-push_line.ensures.pushes)

pub returns-clause-pushes : goal.returns-clause-pushes
returns-clause-pushes g c =
    let right = rw c.in-Some.is at c.in_ok-text.ensures in
    let shown = shown_view c.args.attribute.now in
    pushes-passed (kind_and_name shown.kind shown.name ++ c.in-Some.text) (line_if_right c.args.clusters shown)
    c.args.pending.now c.push_line.new.pending (g.K.Sink.seen c.args.out.now) (g.K.Sink.seen c.push_line.new.out) c.in_ok-push_line.field-0 true
    (line-right c.args.clusters shown c.in-Some.text right.0 right.1) c.in_ok-push_line.ensures.pushes
