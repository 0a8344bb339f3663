use Rattle.std.proofs.lemmas.Result.{err_from_is_err_and}
use Rattle.ntfs_base.proofs.FramesLemmas.{puts_none}
use Rattle.ntfs_run.specs.Outcome.{status_origin}
use Rattle.ntfs_run.proofs.ShowLemmas.{lines_refused}
use Rattle.ntfs_run.proofs.info.print_geometry.Goals as goal

pub returns-in_err-geometry-clause-puts : goal.returns-in_err-geometry-clause-puts
returns-in_err-geometry-clause-puts g c told =
    let p = err_from_is_err_and c.from_residual.result c.from_residual.ensures.1 in
    rw (p.1, p.2) (puts_none status_origin _ _ _ (lines_refused (g.G.Image.seen c.args.image.now).content c.in_err-geometry.field-0.0 (c.in_err-geometry.ensures.gives told)))
