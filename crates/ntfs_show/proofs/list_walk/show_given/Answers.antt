use Rattle.std.proofs.Common.{sym, ◌∙◌}
use Rattle.std.proofs.lemmas.Result.{err_from_is_err_and}
use Rattle.ntfs_show.proofs.ListStateLemmas.{entered-new, given-hidden, given-stopped}
use Rattle.ntfs_show.proofs.list_walk.show_given.Goals as goal

pub returns-then-not-is_shown-clause-lists : goal.returns-then-not-is_shown-clause-lists
returns-then-not-is_shown-clause-lists g c =
    given-hidden _ _ _ _ _ _ _ _ _ _ (sym c.is_shown.ensures ∙ c.if-not-is_shown.true)

pub returns-in_err-is_directory-clause-lists : goal.returns-in_err-is_directory-clause-lists
returns-in_err-is_directory-clause-lists g c =
    let p = err_from_is_err_and c.from_residual.result c.from_residual.ensures.1 in
    rw (p.1, p.2) (given-stopped _ _ _ _ _ _ _ _ _ _ _ _ _ (sym c.is_shown.ensures ∙ c.if-not-is_shown.false)
    c.in_err-is_directory.ensures.lists)

pub returns-then-is_entered-clause-below : goal.returns-then-is_entered-clause-below
returns-then-is_entered-clause-below g c = (
  c.record_number-below.ensures.below,
  entered-new _ _ _ _ (sym c.is_entered.ensures ∙ c.if-is_entered.true),
)
