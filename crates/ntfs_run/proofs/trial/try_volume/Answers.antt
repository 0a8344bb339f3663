use Rattle.std.proofs.Common.{refl}
use Rattle.std.proofs.lemmas.Result.{err_from_is_err_and}
use Rattle.ntfs_run.proofs.ToolLemmas.{does_refused}
use Rattle.ntfs_run.specs.Trial.{trial_outcome}
use Rattle.ntfs_run.specs.declared.status.Status.TheVariants as status
use Rattle.ntfs_run.proofs.trial.try_volume.Goals as goal

pub returns-in_err-clone-clause-does : goal.returns-in_err-clone-clause-does
returns-in_err-clone-clause-does g c told =
    let p = err_from_is_err_and c.from_residual.result c.from_residual.ensures.1 in
    rw (p.1, p.2) (does_refused (trial_outcome c.args.seed c.args.name.now (g.S.Shelf.seen c.args.shelf.now).files) status.NoMemory _ _ _ _ refl refl (λ settled. absurd settled))

pub returns-in_err-back-clause-does : goal.returns-in_err-back-clause-does
returns-in_err-back-clause-does g c told =
    let p = err_from_is_err_and c.from_residual-in_err-back.result c.from_residual-in_err-back.ensures.1 in
    rw (p.1, p.2) (does_refused (trial_outcome c.args.seed c.args.name.now (g.S.Shelf.seen c.args.shelf.now).files) status.NoMemory _ _ _ _ refl refl (λ settled. absurd settled))
