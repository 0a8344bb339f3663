use Rattle.std.proofs.Common.{Err, Ok, codes, subst, sym}
use Rattle.std.proofs.lemmas.Result.{err_from_is_err_and}
use Rattle.ntfs_base.specs.Causes.{Rose}
use Rattle.ntfs_clone.specs.Taking.{to_come}
use Rattle.ntfs_run.specs.Job.{restored_as}
use Rattle.ntfs_run.specs.Outcome.{Does, status_of}
use Rattle.ntfs_run.specs.Trial.{TrialRefuses, bytes_line}
use Rattle.ntfs_run.proofs.OutputLemmas.{makes_none}
use Rattle.ntfs_run.proofs.TrialLemmas.{behind_line, line_refused, line_then, made_then_put, puts_first}
use Rattle.ntfs_run.proofs.trial.restore_attached.Goals as goal

pub returns-in_err-put_count-clause-does : goal.returns-in_err-put_count-clause-does
returns-in_err-put_count-clause-does g c shelf told =
    let p = err_from_is_err_and c.from_residual.result c.from_residual.ensures.1 in
    let files = (g.S.Shelf.seen c.args.shelf.now).files in
    let image = to_come (g.I.Source.seen c.args.source.now) in
    let fault = c.in_err-put_count.field-0.0 in
    rw (p.1, p.2) (subst (λ o. Does o fault (g.O.Sink.seen c.args.out.now) (g.O.Sink.seen c.put_count.new.out) files) (sym (behind_line c.args.len c.args.back.now image files))
    (line_refused (bytes_line (codes "clone: ") c.args.len) (restored_as c.args.back.now image files) fault _ _ files c.in_err-put_count.ensures.refusal c.in_err-put_count.ensures.puts))

pub returns-in_err-put_count-clause-makes : goal.returns-in_err-put_count-clause-makes
returns-in_err-put_count-clause-makes g c =
    let p = err_from_is_err_and c.from_residual.result c.from_residual.ensures.1 in
    let read = Rose (g.I.Source.faults c.args.source.now) (g.I.Source.faults c.args.source.now) in
    rw (p.1, p.2) (made_then_put g.S.Shelf g.O.Sink TrialRefuses read read c.args.shelf.now c.args.shelf.now c.args.out.now c.put_count.new.out tt (Err _)
    (makes_none g.S.Shelf TrialRefuses read c.args.shelf.now (Ok tt) tt tt) c.in_err-put_count.ensures.frame c.in_err-put_count.ensures.refusal tt)

pub returns-clause-does : goal.returns-clause-does
returns-clause-does g c shelf told =
    let files = (g.S.Shelf.seen c.args.shelf.now).files in
    let image = to_come (g.I.Source.seen c.args.source.now) in
    let left = (g.S.Shelf.seen c.restore_back.new.shelf).files in
    let status = status_of c.restore_back.result in
    subst (λ o. Does o status (g.O.Sink.seen c.args.out.now) (g.O.Sink.seen c.restore_back.new.out) left) (sym (behind_line c.args.len c.args.back.now image files))
    (line_then (bytes_line (codes "clone: ") c.args.len) (restored_as c.args.back.now image files) status _ (g.O.Sink.seen c.put_count.new.out) _ left
    (c.in_ok-put_count.ensures.puts.output tt) (c.restore_back.ensures.does shelf told))

pub returns-clause-makes : goal.returns-clause-makes
returns-clause-makes g c =
    puts_first g.S.Shelf g.O.Sink c.args.shelf.now c.restore_back.new.shelf c.args.out.now c.put_count.new.out c.restore_back.new.out _ c.restore_back.result
    c.in_ok-put_count.ensures.frame.puts c.restore_back.ensures.makes
