use Rattle.std.proofs.Common.{Some, ap, refl, sym, ◌∙◌}
use Rattle.std.proofs.lemmas.Result.{err_from_is_err_and}
use Rattle.ntfs_run.proofs.CloneLemmas.{apart_named, does_ended, does_put, work_output, work_unnamed, write_unsettled}
use Rattle.ntfs_run.proofs.ToolLemmas.{does_refused}
use Rattle.ntfs_run.proofs.clone.save_volume.Goals as goal

pub returns-in_default-clause-does : goal.returns-in_default-clause-does
returns-in_default-clause-does g c told =
    let r = c.args.request.now in
    rw c.in_default.is (does_refused _ _ _ _ _ _ refl refl (λ settled. work_unnamed r.save r.force r.output.now r.overwrite (g.S.Shelf.seen c.args.shelf.now).files))

pub returns-in_err-flush-in-Some-output-clause-does : goal.returns-in_err-flush-in-Some-output-clause-does
returns-in_err-flush-in-Some-output-clause-does g c told =
    let p = err_from_is_err_and c.from_residual.result c.from_residual.ensures.1 in
    rw (p.1, p.2) (does_refused _ _ _ _ _ _ c.in_err-flush-in-Some-output.ensures.seen refl
    (λ settled. absurd (write_unsettled _ c.in_err-flush-in-Some-output.ensures.refusal settled)))

pub save_named-requires-clause-apart : goal.save_named-requires-clause-apart
save_named-requires-clause-apart g c =
    apart_named c.as_str-in-Some-output.result.now c.as_str-in-Some-output-2.result.now
    (rw (c.in-Some.is ∙ ap Some (sym c.as_str-in-Some-output.ensures), c.in-Some-output.is ∙ ap Some (sym c.as_str-in-Some-output-2.ensures)) at c.requires.apart)

pub returns-in-None-clause-does : goal.returns-in-None-clause-does
returns-in-None-clause-does g c told =
    let r = c.args.request.now in
    rw (c.in-Some.is ∙ ap Some (sym c.as_str.ensures), c.in-None.is)
    (does_put r.save r.force r.overwrite c.as_str.result.now (g.S.Shelf.seen c.args.shelf.now).files _ c.save_out.result _ _ (ap (λ shelf. shelf.files) c.save_out.ensures.shows.seen)
    (c.save_out.ensures.puts told))

pub returns-in_ok-flush-in-Some-output-clause-does : goal.returns-in_ok-flush-in-Some-output-clause-does
returns-in_ok-flush-in-Some-output-clause-does g c told =
    let r = c.args.request.now in
    rw (c.in-Some.is ∙ ap Some (sym c.as_str-in-Some-output.ensures), c.in-Some-output.is ∙ ap Some (sym c.as_str-in-Some-output-2.ensures))
    (does_ended _ _ _ _ _ (c.save_named.ensures.ends told) c.in_ok-flush-in-Some-output.ensures.seen
    (work_output r.save r.force c.as_str-in-Some-output-2.result.now r.overwrite c.as_str-in-Some-output.result.now (g.S.Shelf.seen c.args.shelf.now).files))
