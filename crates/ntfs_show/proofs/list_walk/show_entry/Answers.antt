use Rattle.std.proofs.Common.{ℕ, ap, ◌∙◌}
use Rattle.std.proofs.lemmas.Result.{err_from_is_err_and}
use Rattle.ntfs_show.specs.Listing.{entry_line, entry_path}
use Rattle.ntfs_show.proofs.ListLemmas.{put-never}
use Rattle.ntfs_show.proofs.ListStateLemmas.{entry-cut, entry-refused}
use Rattle.ntfs_show.proofs.list_walk.show_entry.Goals as goal

pub returns-in_err-is_directory-clause-lists : goal.returns-in_err-is_directory-clause-lists
returns-in_err-is_directory-clause-lists g c =
    let p = err_from_is_err_and c.from_residual.result c.from_residual.ensures.1 in
    rw (p.1, p.2) (entry-refused _ _ _ _ _ _ _ _ (λ told settled. c.in_err-is_directory.ensures.gives told settled))

pub returns-in_err-build_line-clause-lists : goal.returns-in_err-build_line-clause-lists
returns-in_err-build_line-clause-lists g c =
    let p = err_from_is_err_and c.from_residual-in_err-build_line.result c.from_residual-in_err-build_line.ensures.1 in
    rw (p.1, p.2) (entry-refused _ _ _ _ _ _ _ _ (λ told settled. absurd settled))

pub returns-in_err-push-clause-lists : goal.returns-in_err-push-clause-lists
returns-in_err-push-clause-lists g c =
    let p = err_from_is_err_and c.from_residual-in_err-push.result c.from_residual-in_err-push.ensures.1 in
    let known = c.in_ok-is_directory.ensures in
    let pushed = c.in_err-push.ensures in
    let spelled =
    c.deref.ensures.value ∙ c.in_ok-build_line.ensures
    ∙ ap (λ (n : ℕ). entry_line c.args.desk.now.options n (entry_path c.args.front.now c.args.key.now)
    c.in_ok-is_directory.is_directory) c.record_number.ensures.value in
    rw (p.1, p.2) (entry-cut _ _ _ _ _ c.in_ok-is_directory.is_directory _ c.deref.result.now _ _ _ _
    (put-never c.in_err-push.field-0.0) (λ told. known.gives told) spelled pushed.nothing pushed.pushes.part)
