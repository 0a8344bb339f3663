use Rattle.std.proofs.Common.{IsTrue, inr, refl, ap, subst, ◌∙◌}
use Rattle.std.proofs.lemmas.Result.{err_from_is_err_and}
use Rattle.ntfs_base.specs.Frames.{IsSettled}
use Rattle.ntfs_run.specs.Outcome.{status_origin}
use Rattle.ntfs_run.proofs.MakeLemmas.{does_made, filled_is_attached, released_files, runs_made, work_refused}
use Rattle.ntfs_run.proofs.ToolLemmas.{does_refused}
use Rattle.ntfs_run.proofs.make.make_file.Goals as goal

pub returns-in_err-flush-clause-does : goal.returns-in_err-flush-clause-does
returns-in_err-flush-clause-does g c told =
    let p = err_from_is_err_and c.from_residual.result c.from_residual.ensures.1 in
    rw (p.1, p.2) (does_refused _ _ _ _ _ _ c.in_err-flush.ensures.seen refl
    (λ settled. absurd (subst (λ fault. IsSettled (status_origin fault)) c.in_err-flush.ensures.refusal settled)))

pub returns-in_err-file-clause-does : goal.returns-in_err-file-clause-does
returns-in_err-file-clause-does g c told =
    let p = err_from_is_err_and c.from_residual-in_err-file.result c.from_residual-in_err-file.ensures.1 in
    rw (p.1, p.2) (does_refused _ _ _ _ _ _ c.in_ok-flush.ensures.seen (ap (λ shelf. shelf.files) c.in_err-file.ensures.refused)
    (λ settled. work_refused c.args.request.now.file.now c.args.request.now.seed c.args.request.now.clusters c.args.request.now.cluster _ _
    (c.in_err-file.ensures.gives told settled)))

pub release-requires : goal.release-requires
release-requires g c = filled_is_attached g.S.Shelf g.S.File.Image c.args.shelf.now _ c.in_ok-file.file _ c.args.request.now.file.now
    c.in_ok-file.ensures.file c.in_ok-file.ensures.created c.fill-result.ensures.name

pub returns-clause-does : goal.returns-clause-does
returns-clause-does g c told =
    let inside : IsTrue (g.S.File.Image.seen c.in_ok-file.file).is_told = c.in_ok-file.ensures.file.told ∙ told in
    does_made c.args.request.now.file.now c.args.request.now.seed c.args.request.now.clusters c.args.request.now.cluster _ _ _ _ _ c.fill-result.result
    c.in_ok-flush.ensures.seen (c.in_ok-file.ensures.gives told)
    (released_files g.S.Shelf g.S.File.Image c.args.shelf.now c.create_file.new.shelf c.release.new.self c.in_ok-file.file c.fill-result.new.file c.args.request.now.file.now
    c.in_ok-file.ensures.file c.in_ok-file.ensures.created c.fill-result.ensures.name c.release.ensures.released told)
    (c.fill-result.ensures.made inside) c.fill-result.ensures.refusal

pub returns-clause-left : goal.returns-clause-left
returns-clause-left g c told =
    let inside : IsTrue (g.S.File.Image.seen c.in_ok-file.file).is_told = c.in_ok-file.ensures.file.told ∙ told in
    inr (
      (g.S.File.Image.seen c.fill-result.new.file).content,
      c.in_ok-file.ensures.file.fresh refl told,
      released_files g.S.Shelf g.S.File.Image c.args.shelf.now c.create_file.new.shelf c.release.new.self c.in_ok-file.file c.fill-result.new.file c.args.request.now.file.now
          c.in_ok-file.ensures.file c.in_ok-file.ensures.created c.fill-result.ensures.name c.release.ensures.released told,
      c.fill-result.ensures.left inside,
    )

pub returns-clause-runs : goal.returns-clause-runs
returns-clause-runs g c = runs_made g.S.Shelf g.S.File.Image g.O.Sink c.args.shelf.now c.create_file.new.shelf c.release.new.self c.in_ok-file.file c.fill-result.new.file _ _
    c.args.request.now.file.now c.fill-result.result c.requires.attached c.in_ok-file.ensures.file c.in_ok-file.ensures.created c.in_ok-file.ensures.counts
    c.fill-result.ensures.name c.fill-result.ensures.writes c.fill-result.ensures.refusal c.in_ok-flush.ensures.frame.puts c.in_ok-flush.ensures.flushed
    c.release.ensures.released c.release.ensures.writes c.release.ensures.counts
