use Rattle.std.proofs.Common.{IsTrue, None, Some, ap, refl, subst, sym, ◌∙◌}
use Rattle.std.proofs.lemmas.Result.{err_from_is_err_and}
use Rattle.ntfs_clone.specs.Taking.{to_come}
use Rattle.ntfs_run.specs.Outcome.{Ends, outcome_or, status_of}
use Rattle.ntfs_run.proofs.CloneLemmas.{does_ended, write_unsettled}
use Rattle.ntfs_run.proofs.RestoreLemmas.{restore_file, restore_input, restore_output}
use Rattle.ntfs_run.proofs.ToolLemmas.{does_refused}
use Rattle.ntfs_run.proofs.clone.restore_clone.Goals as goal

pub returns-in_err-flush-clause-does : goal.returns-in_err-flush-clause-does
returns-in_err-flush-clause-does g c shelf input =
    let p = err_from_is_err_and c.from_residual.result c.from_residual.ensures.1 in
    rw (p.1, p.2) (does_refused _ _ _ _ _ _ c.in_err-flush.ensures.seen refl (λ settled. absurd (write_unsettled _ c.in_err-flush.ensures.refusal settled)))

pub returns-in-None-clause-does : goal.returns-in-None-clause-does
returns-in-None-clause-does g c shelf input =
    let r = c.args.request.now in
    let files = (g.S.Shelf.seen c.args.shelf.now).files in
    let bytes = to_come (g.I.Source.seen c.args.input.now) in
    let told : IsTrue (g.I.Source.seen c.args.input.now).is_told = input (rw c.in-None.is refl) in
    rw c.in-None.is (does_ended _ _ _ _ _
    (subst (λ work. Ends (outcome_or files work) (status_of c.restore_from.result) (g.S.Shelf.seen c.restore_from.new.shelf).files)
    (sym (restore_input r.output.now r.overwrite files bytes)) (c.restore_from.ensures.ends shelf told))
    c.in_ok-flush.ensures.seen (restore_output r.output.now r.overwrite None files bytes))

pub returns-in-Some-clause-does : goal.returns-in-Some-clause-does
returns-in-Some-clause-does g c shelf input =
    let r = c.args.request.now in
    let files = (g.S.Shelf.seen c.args.shelf.now).files in
    let bytes = to_come (g.I.Source.seen c.args.input.now) in
    rw (c.in-Some.is ∙ ap Some (sym c.as_str.ensures)) (does_ended _ _ _ _ _
    (subst (λ work. Ends (outcome_or files work) (status_of c.restore_named.result) (g.S.Shelf.seen c.restore_named.new.shelf).files)
    (sym (restore_file r.output.now r.overwrite c.as_str.result.now files bytes)) (c.restore_named.ensures.ends shelf))
    c.in_ok-flush.ensures.seen (restore_output r.output.now r.overwrite (Some c.as_str.result.now) files bytes))
