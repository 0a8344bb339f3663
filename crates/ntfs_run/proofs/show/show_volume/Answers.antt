use Rattle.std.proofs.Common.{sym, subst}
use Rattle.std.proofs.lemmas.Result.{err_from_is_err_and}
use Rattle.ntfs_base.proofs.FramesLemmas.{told_still}
use Rattle.ntfs_print.specs.Printing.{Prints}
use Rattle.ntfs_run.specs.Outcome.{status_origin}
use Rattle.ntfs_run.specs.Show.{volume_printing}
use Rattle.ntfs_run.proofs.ShowLemmas.{open_refuses, opened, prints_none, unopened}
use Rattle.ntfs_run.proofs.show.show_volume.Goals as goal

pub returns-in_err-table-clause-prints : goal.returns-in_err-table-clause-prints
returns-in_err-table-clause-prints g c told =
    let p = err_from_is_err_and c.from_residual.result c.from_residual.ensures.1 in
    rw (p.1, p.2) (prints_none _ _ _ (unopened (g.G.Image.seen c.args.image.now).content
    (λ volume. volume_printing c.args.request.now volume (g.G.Image.seen c.args.image.now).content) c.in_err-table.field-0.0 (c.in_err-table.ensures.gives told)))

pub returns-in_err-table-clause-refusal : goal.returns-in_err-table-clause-refusal
returns-in_err-table-clause-refusal g c =
    let p = err_from_is_err_and c.from_residual.result c.from_residual.ensures.1 in
    rw (p.1, p.2) (open_refuses c.args.request.now c.in_err-table.field-0.0 c.requires.asked)

pub returns-clause-prints : goal.returns-clause-prints
returns-clause-prints g c told =
    let table = c.in_ok-table.table in
    let request = c.args.request.now in
    let prints = told_still g.G.Image _ _ (λ content. Prints status_origin (volume_printing request table content) (g.O.Sink.seen c.args.out.now) c.show_opened.result (g.O.Sink.seen c.show_opened.new.out))
    c.in_ok-table.ensures.reads.seen c.show_opened.ensures.prints in
    subst (λ expected. Prints status_origin expected (g.O.Sink.seen c.args.out.now) c.show_opened.result (g.O.Sink.seen c.show_opened.new.out))
    (sym (opened (g.G.Image.seen c.args.image.now).content (λ volume. volume_printing request volume (g.G.Image.seen c.args.image.now).content) table
    (c.in_ok-table.ensures.gives told))) (prints told)
