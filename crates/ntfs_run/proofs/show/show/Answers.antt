use Rattle.std.proofs.Common.{IsTrue, sym, subst, ◌∙◌}
use Rattle.std.proofs.lemmas.Result.{err_from_is_err_and}
use Rattle.ntfs_print.specs.Printing.{Prints}
use Rattle.ntfs_run.specs.Outcome.{status_origin}
use Rattle.ntfs_run.specs.Show.{ShowRefuses, image_printing}
use Rattle.ntfs_run.proofs.ShowLemmas.{absent, held, prints_none}
use Rattle.ntfs_run.proofs.ToolLemmas.{shown_is_attached, shows_released}
use Rattle.ntfs_run.proofs.show.show.Goals as goal

pub returns-in_err-file-clause-prints : goal.returns-in_err-file-clause-prints
returns-in_err-file-clause-prints g c told =
    let p = err_from_is_err_and c.from_residual.result c.from_residual.ensures.1 in
    rw (p.1, p.2) (prints_none _ _ _ (λ settled. absent c.args.name.now _ (image_printing c.args.request.now) _ (c.in_err-file.ensures.gives told settled)))

pub release-requires : goal.release-requires
release-requires g c = shown_is_attached g.S.Shelf g.S.File.Image g.O.Sink c.args.shelf.now _ _ _ _ _ _ c.show_image-result.result
    c.in_ok-file.ensures.file c.in_ok-file.ensures.attached c.show_image-result.ensures.copies

pub returns-clause-prints : goal.returns-clause-prints
returns-clause-prints g c told =
    let inside : IsTrue (g.S.File.Image.seen c.in_ok-file.file).is_told = c.in_ok-file.ensures.file.told ∙ told in
    subst (λ expected. Prints status_origin expected (g.O.Sink.seen c.args.out.now) c.show_image-result.result (g.O.Sink.seen c.show_image-result.new.out))
    (sym (held c.args.name.now _ (image_printing c.args.request.now) _ (c.in_ok-file.ensures.gives told))) (c.show_image-result.ensures.prints inside)

pub returns-clause-shows : goal.returns-clause-shows
returns-clause-shows g c = shows_released g.S.Shelf g.S.File.Image g.O.Sink (ShowRefuses c.args.request.now) c.args.shelf.now _ _ _ _ _ _ _ c.show_image-result.result
    c.in_ok-file.ensures.file c.in_ok-file.ensures.attached c.in_ok-file.ensures.counts c.show_image-result.ensures.copies
    c.show_image-result.ensures.refusal c.show_image-result.ensures.flushed c.release.ensures.released c.release.ensures.reads c.release.ensures.counts
