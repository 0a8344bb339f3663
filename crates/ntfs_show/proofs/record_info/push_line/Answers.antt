use Rattle.std.proofs.Common.{◌++◌, ◌∙◌}
use Rattle.std.proofs.lemmas.Result.{err_from_is_err_and}
use Rattle.ntfs_print.specs.Label.{kind_and_name}
use Rattle.ntfs_print.proofs.PendingLemmas.{pushes-stop, pushes-then}
use Rattle.ntfs_show.proofs.RecordInfoLemmas.{both-same, pushes-failed, pushes-passed}
use Rattle.ntfs_show.proofs.record_info.push_line.Goals as goal

pub returns-in_err-label-clause-pushes : goal.returns-in_err-label-clause-pushes
returns-in_err-label-clause-pushes g c =
    let p = err_from_is_err_and c.from_residual.result c.from_residual.ensures.1 in
    rw p.1 (pushes-stop _ c.args.pending.now c.args.pending.now (g.K.Sink.seen c.args.out.now) _)

pub returns-in_err-push-2-clause-pushes : goal.returns-in_err-push-2-clause-pushes
returns-in_err-push-2-clause-pushes g c =
    let p = err_from_is_err_and c.from_residual-in_err-push-2.result c.from_residual-in_err-push-2.ensures.1 in
    rw p.1 (pushes-failed (c.as_bytes.result.now ++ c.as_bytes-2.result.now) (kind_and_name c.args.attribute.now.kind c.args.attribute.now.name.now ++ c.args.text.now)
    c.args.pending.now c.push-2.new.self c.push-2.new.self (g.K.Sink.seen c.args.out.now) (g.K.Sink.seen c.push-2.new.out) c.in_err-push-2.field-0.0 _
    (both-same _ _ _ _ (c.as_bytes.ensures.value ∙ c.in_ok-label.ensures) c.as_bytes-2.ensures)
    (pushes-then _ _ c.args.pending.now c.push.new.self c.push-2.new.self (g.K.Sink.seen c.args.out.now) (g.K.Sink.seen c.push.new.out) (g.K.Sink.seen c.push-2.new.out) c.in_ok-push.field-0 _
    c.in_ok-push.ensures.pushes c.in_err-push-2.ensures.pushes))

pub returns-clause-pushes : goal.returns-clause-pushes
returns-clause-pushes g c =
    pushes-passed (c.as_bytes.result.now ++ c.as_bytes-2.result.now) (kind_and_name c.args.attribute.now.kind c.args.attribute.now.name.now ++ c.args.text.now)
    c.args.pending.now c.push-2.new.self (g.K.Sink.seen c.args.out.now) (g.K.Sink.seen c.push-2.new.out) c.in_ok-push-2.field-0 tt
    (both-same _ _ _ _ (c.as_bytes.ensures.value ∙ c.in_ok-label.ensures) c.as_bytes-2.ensures)
    (pushes-then _ _ c.args.pending.now c.push.new.self c.push-2.new.self (g.K.Sink.seen c.args.out.now) (g.K.Sink.seen c.push.new.out) (g.K.Sink.seen c.push-2.new.out) c.in_ok-push.field-0 _
    c.in_ok-push.ensures.pushes c.in_ok-push-2.ensures.pushes)
