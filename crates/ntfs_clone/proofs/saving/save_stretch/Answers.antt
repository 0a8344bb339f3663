use Rattle.std.proofs.lemmas.Result.{err_from_is_err_and}
use Rattle.ntfs_clone.proofs.SavingLemmas.{kept-then, saves-cut, saves-kept, saves-then}
use Rattle.ntfs_clone.proofs.saving.save_stretch.Goals as goal

pub returns-in_err-save_rows-clause-saved : goal.returns-in_err-save_rows-clause-saved
returns-in_err-save_rows-clause-saved g c told =
    let p = err_from_is_err_and c.from_residual.result c.from_residual.ensures.1 in
    rw (p.1, p.2) (saves-cut _ _ _ _ _ _ _ _ _ (c.in_err-save_rows.ensures.saved told))

pub returns-clause-saved : goal.returns-clause-saved
returns-clause-saved g c told = saves-then _ _ _ _ _ _ _ _ _ _ (c.in_ok-save_rows.ensures.saved told) c.save_gap.ensures.saved

pub returns-clause-kept : goal.returns-clause-kept
returns-clause-kept g c = kept-then _ _ _ c.in_ok-save_rows.ensures.kept (saves-kept _ _ _ _ _ _ c.save_gap.ensures.saved)
