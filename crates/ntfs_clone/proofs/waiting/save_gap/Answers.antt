use Rattle.std.proofs.lemmas.Result.{err_from_is_err_and}
use Rattle.ntfs_clone.proofs.SavingLemmas.{saves-want}
use Rattle.ntfs_clone.proofs.waiting.save_gap.Goals as goal

pub returns-in_err-add_gap-clause-saved : goal.returns-in_err-add_gap-clause-saved
returns-in_err-add_gap-clause-saved g c =
    let p = err_from_is_err_and c.from_residual-in_err-add_gap.result c.from_residual-in_err-add_gap.ensures.1 in
    rw (p.1, p.2) (saves-want _ _ _ _ _ _ _ _ c.in_ok-make_room.ensures.saved)
