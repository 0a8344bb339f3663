use Rattle.std.proofs.Common.{[], ◌++◌, ◌∙◌, ap, refl, sym}
use Rattle.std.proofs.lemmas.List.{append-nil}
use Rattle.std.proofs.lemmas.Result.{err_from_is_err_and}
use Rattle.ntfs_print.specs.Fault.{show_origin}
use Rattle.ntfs_print.specs.Printing.{end_of}
use Rattle.ntfs_show.specs.RecordInfo.{attribute_lines, file_printing, head_lines, shown_attributes}
use Rattle.ntfs_print.proofs.PendingLemmas.{printed-start, printed-step, prints-cut, prints-end, prints-end-cut, prints-stop}
use Rattle.ntfs_show.proofs.RecordInfoLemmas.{file-output, file-right, file-wrong, printed-first, put-cut}
use Rattle.ntfs_show.proofs.record_info.put_view.Goals as goal

pub returns-in_err-pending-clause-told : goal.returns-in_err-pending-clause-told
returns-in_err-pending-clause-told g c =
    let expected = file_printing c.args.clusters c.args.number c.args.view.now in
    let sink = g.K.Sink.seen c.args.out.now in
    let p = err_from_is_err_and c.from_residual.result c.from_residual.ensures.1 in
    rw (p.1, p.2) (prints-stop show_origin expected [] expected.output [] sink sink _ (λ settled. absurd settled) refl (printed-start sink))

pub returns-in_err-keep-clause-told : goal.returns-in_err-keep-clause-told
returns-in_err-keep-clause-told g c =
    let expected = file_printing c.args.clusters c.args.number c.args.view.now in
    let head = head_lines c.args.number c.args.view.now in
    let lines = attribute_lines c.args.clusters (shown_attributes c.args.view.now) in
    let before = g.K.Sink.seen c.args.out.now in
    let now = g.K.Sink.seen c.push.new.out in
    let first = printed-first c.in_ok-pending.pending c.as_bytes.result.now head c.push.new.self before now c.in_ok-pending.ensures (c.as_bytes.ensures ∙ c.head_lines.ensures) c.in_ok-push.ensures.pushes.whole in
    let p = err_from_is_err_and c.from_residual-in_err-keep.result c.from_residual-in_err-keep.ensures.1 in
    rw (p.1, p.2) (prints-cut show_origin expected head lines [] c.push.new.self before now (g.K.Sink.seen c.push_attributes.new.out) c.in_err-keep.field-0.0 c.in_err-keep.ensures.cut
    (file-output c.args.clusters c.args.number c.args.view.now ∙ sym (append-nil (head ++ lines))) first c.in_err-keep.ensures.pushes.part)

pub returns-in_err-put_rest-clause-told : goal.returns-in_err-put_rest-clause-told
returns-in_err-put_rest-clause-told g c =
    let expected = file_printing c.args.clusters c.args.number c.args.view.now in
    let head = head_lines c.args.number c.args.view.now in
    let lines = attribute_lines c.args.clusters (shown_attributes c.args.view.now) in
    let before = g.K.Sink.seen c.args.out.now in
    let now = g.K.Sink.seen c.push.new.out in
    let after = g.K.Sink.seen c.push_attributes.new.out in
    let first = printed-first c.in_ok-pending.pending c.as_bytes.result.now head c.push.new.self before now c.in_ok-pending.ensures (c.as_bytes.ensures ∙ c.head_lines.ensures) c.in_ok-push.ensures.pushes.whole in
    let all = printed-step head lines c.push.new.self c.push_attributes.new.pending before now after first c.in_ok-keep.ensures.pushes.whole in
    let p = err_from_is_err_and c.from_residual-in_err-put_rest.result c.from_residual-in_err-put_rest.ensures.1 in
    rw (p.1, p.2) (prints-end-cut show_origin expected (head ++ lines) [] c.push_attributes.new.pending before after (g.K.Sink.seen c.put_rest.new.out) _ (put-cut c.in_err-put_rest.field-0.0)
    (file-output c.args.clusters c.args.number c.args.view.now ∙ sym (append-nil (head ++ lines))) all c.in_err-put_rest.ensures.put.part)

pub returns-then-not-keep-clause-told : goal.returns-then-not-keep-clause-told
returns-then-not-keep-clause-told g c =
    let expected = file_printing c.args.clusters c.args.number c.args.view.now in
    let head = head_lines c.args.number c.args.view.now in
    let lines = attribute_lines c.args.clusters (shown_attributes c.args.view.now) in
    let before = g.K.Sink.seen c.args.out.now in
    let now = g.K.Sink.seen c.push.new.out in
    let after = g.K.Sink.seen c.push_attributes.new.out in
    let first = printed-first c.in_ok-pending.pending c.as_bytes.result.now head c.push.new.self before now c.in_ok-pending.ensures (c.as_bytes.ensures ∙ c.head_lines.ensures) c.in_ok-push.ensures.pushes.whole in
    let all = printed-step head lines c.push.new.self c.push_attributes.new.pending before now after first c.in_ok-keep.ensures.pushes.whole in
    prints-end show_origin expected (head ++ lines) c.push_attributes.new.pending before after (g.K.Sink.seen c.put_rest.new.out) _
    (file-output c.args.clusters c.args.number c.args.view.now) all c.in_ok-put_rest.ensures.put.whole
    (sym (ap end_of (file-wrong c.args.clusters c.args.number c.args.view.now (sym c.in_ok-keep.ensures.keep ∙ c.if-not-keep.true))))

pub returns-clause-told : goal.returns-clause-told
returns-clause-told g c =
    let expected = file_printing c.args.clusters c.args.number c.args.view.now in
    let head = head_lines c.args.number c.args.view.now in
    let lines = attribute_lines c.args.clusters (shown_attributes c.args.view.now) in
    let before = g.K.Sink.seen c.args.out.now in
    let now = g.K.Sink.seen c.push.new.out in
    let after = g.K.Sink.seen c.push_attributes.new.out in
    let first = printed-first c.in_ok-pending.pending c.as_bytes.result.now head c.push.new.self before now c.in_ok-pending.ensures (c.as_bytes.ensures ∙ c.head_lines.ensures) c.in_ok-push.ensures.pushes.whole in
    let all = printed-step head lines c.push.new.self c.push_attributes.new.pending before now after first c.in_ok-keep.ensures.pushes.whole in
    prints-end show_origin expected (head ++ lines) c.push_attributes.new.pending before after (g.K.Sink.seen c.put_rest.new.out) _
    (file-output c.args.clusters c.args.number c.args.view.now) all c.in_ok-put_rest.ensures.put.whole
    (sym (ap end_of (file-right c.args.clusters c.args.number c.args.view.now (sym c.in_ok-keep.ensures.keep ∙ c.if-not-keep.false))))
