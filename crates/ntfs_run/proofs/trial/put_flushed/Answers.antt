use Rattle.std.proofs.Common.{refl}
use Rattle.std.proofs.lemmas.Result.{IfErr-weaker, err_from_is_err_and}
use Rattle.ntfs_run.proofs.CloneLemmas.{puts_flushed}
use Rattle.ntfs_run.proofs.TrialLemmas.{put_done, put_failed, put_fills, put_frame, puts_after, write_fills}
use Rattle.ntfs_run.proofs.trial.put_flushed.Goals as goal

pub returns-in_err-put-clause-puts : goal.returns-in_err-put-clause-puts
returns-in_err-put-clause-puts g c =
    let p = err_from_is_err_and c.from_residual.result c.from_residual.ensures.1 in
    rw (p.1, p.2) (put_failed c.args.line.now _ _ c.in_err-put.field-0.0 (rw c.as_bytes.ensures at c.in_err-put.ensures.put))

pub returns-in_err-put-clause-frame : goal.returns-in_err-put-clause-frame
returns-in_err-put-clause-frame g c =
    let p = err_from_is_err_and c.from_residual.result c.from_residual.ensures.1 in
    rw (p.1, p.2) (put_frame g.O.Sink _ _ c.in_err-put.field-0.0 c.in_err-put.ensures.cause)

pub returns-in_err-put-clause-refusal : goal.returns-in_err-put-clause-refusal
returns-in_err-put-clause-refusal g c =
    let p = err_from_is_err_and c.from_residual.result c.from_residual.ensures.1 in
    rw (p.1, p.2) (put_fills c.in_err-put.field-0.0)

pub returns-clause-puts : goal.returns-clause-puts
returns-clause-puts g c =
    puts_flushed _ c.args.line.now _ (g.O.Sink.seen c.put.new.self) _ c.flush.result refl
    (put_done c.args.line.now _ _ c.in_ok-put.field-0 (rw c.as_bytes.ensures at c.in_ok-put.ensures.put)) c.flush.ensures.seen c.flush.ensures.refusal

pub returns-clause-frame : goal.returns-clause-frame
returns-clause-frame g c = puts_after g.O.Sink _ c.put.new.self _ c.in_ok-put.field-0 c.flush.result c.in_ok-put.ensures.cause c.flush.ensures.frame

pub returns-clause-refusal : goal.returns-clause-refusal
returns-clause-refusal g c = IfErr-weaker c.flush.result _ _ write_fills c.flush.ensures.refusal
