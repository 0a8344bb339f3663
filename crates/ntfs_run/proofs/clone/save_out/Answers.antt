use Rattle.std.proofs.Common.{IsTrue, ap, sym, subst, ◌∙◌}
use Rattle.std.proofs.lemmas.Result.{err_from_is_err_and}
use Rattle.ntfs_base.specs.Frames.{Puts, ◌>>=◌}
use Rattle.ntfs_base.proofs.FramesLemmas.{puts_none}
use Rattle.ntfs_run.specs.Clone.{PutRefuses, clone_put}
use Rattle.ntfs_run.specs.Outcome.{status_origin}
use Rattle.ntfs_run.proofs.ToolLemmas.{shown_is_attached, shows_released}
use Rattle.ntfs_run.proofs.clone.save_out.Goals as goal

pub returns-in_err-file-clause-puts : goal.returns-in_err-file-clause-puts
returns-in_err-file-clause-puts g c told =
    let p = err_from_is_err_and c.from_residual.result c.from_residual.ensures.1 in
    rw (p.1, p.2) (puts_none status_origin _ _ _ (λ settled. ap (λ r. r >>= clone_put c.args.force) (c.in_err-file.ensures.gives told settled)))

pub release-requires : goal.release-requires
release-requires g c = shown_is_attached g.S.Shelf g.S.File.Image g.O.Sink c.args.shelf.now _ _ _ _ _ _ c.put_clone-result.result
    c.in_ok-file.ensures.file c.in_ok-file.ensures.attached c.put_clone-result.ensures.copies

pub returns-clause-puts : goal.returns-clause-puts
returns-clause-puts g c told =
    let inside : IsTrue (g.S.File.Image.seen c.in_ok-file.file).is_told = c.in_ok-file.ensures.file.told ∙ told in
    subst (λ expected. Puts status_origin expected (g.O.Sink.seen c.args.out.now) c.put_clone-result.result (g.O.Sink.seen c.put_clone-result.new.out))
    (sym (ap (λ r. r >>= clone_put c.args.force) (c.in_ok-file.ensures.gives told))) (c.put_clone-result.ensures.puts inside)

pub returns-clause-shows : goal.returns-clause-shows
returns-clause-shows g c = shows_released g.S.Shelf g.S.File.Image g.O.Sink (PutRefuses c.args.force) c.args.shelf.now _ _ _ _ _ _ _ c.put_clone-result.result
    c.in_ok-file.ensures.file c.in_ok-file.ensures.attached c.in_ok-file.ensures.counts c.put_clone-result.ensures.copies
    c.put_clone-result.ensures.refusal c.put_clone-result.ensures.flushed c.release.ensures.released c.release.ensures.reads c.release.ensures.counts
