use Rattle.std.proofs.Common.{◌≡◌, IsTrue, Some, ap, sym, subst, ◌∙◌}
use Rattle.std.proofs.lemmas.Result.{err_from_is_err_and}
use Rattle.ntfs_base.specs.FileStream.{source_of}
use Rattle.ntfs_clone.specs.Taking.{to_come}
use Rattle.ntfs_run.specs.Clone.{ImageRefuses, IsRestoredFrom, LeavesOutput, RestoreRefuses, restored_image}
use Rattle.ntfs_run.specs.Outcome.{Ends, KeepsOtherFiles, outcome_or, status_of}
use Rattle.ntfs_run.proofs.OutputLemmas.{ends_refused, leaves_map}
use Rattle.ntfs_run.proofs.RestoreLemmas.{given_bears, given_holds, image_in_named, restore_read, restore_refused, unread_bytes}
use Rattle.ntfs_run.proofs.ReturnLemmas.{are_free, held_files, held_told, others_at, read_files, read_is_attached, read_makes, shelf_kept}
use Rattle.ntfs_run.proofs.clone.restore_named.Goals as goal

pub returns-in_err-file-clause-ends : goal.returns-in_err-file-clause-ends
returns-in_err-file-clause-ends g c told =
    let r = c.args.request.now in
    let p = err_from_is_err_and c.from_residual.result c.from_residual.ensures.1 in
    rw (p.1, p.2) (ends_refused _ _ _ _ (ap (λ shelf. shelf.files) c.in_err-file.ensures.refused)
    (λ settled. restore_refused r.output.now r.overwrite c.args.source.now _ _ (c.in_err-file.ensures.gives told settled)))

pub restore_from-result-requires : goal.restore_from-result-requires
restore_from-result-requires g c = are_free c.args.source.now c.args.request.now.output.now (g.S.Shelf.seen c.args.shelf.now) _ c.requires.attached c.in_ok-file.ensures.attached c.requires.apart

pub release-requires : goal.release-requires
release-requires g c =
    let bears : (g.S.File.Image.seen c.into_file.result).name ≡ (g.S.File.Image.seen c.in_ok-file.file).name =
    rw c.into_file.ensures (given_bears (g.S.File.Image.seen c.in_ok-file.file) (g.S.File.Image.seen c.restore_from-result.new.source.file) c.new-clone.result.given c.restore_from-result.new.source.given
    (rw c.new-clone.ensures.file at c.restore_from-result.ensures.kept)) in
    let holds : (g.S.File.Image.seen c.into_file.result).content ≡ (g.S.File.Image.seen c.in_ok-file.file).content =
    rw c.into_file.ensures (given_holds (g.S.File.Image.seen c.in_ok-file.file) (g.S.File.Image.seen c.restore_from-result.new.source.file) c.new-clone.result.given c.restore_from-result.new.source.given
    (rw c.new-clone.ensures.file at c.restore_from-result.ensures.kept)) in
    read_is_attached g.S.Shelf g.S.File.Image c.args.shelf.now c.attach_file.new.shelf c.restore_from-result.new.shelf c.restore_from-result.new.shelf c.in_ok-file.file c.into_file.result c.args.source.now
    c.in_ok-file.ensures.file c.in_ok-file.ensures.attached bears holds c.restore_from-result.ensures.makes.attached

pub returns-clause-ends : goal.returns-clause-ends
returns-clause-ends g c told =
    let r = c.args.request.now in
    let before = (g.S.Shelf.seen c.args.shelf.now).files in
    let image = (g.S.File.Image.seen c.in_ok-file.file).content in
    let status = status_of c.restore_from-result.result in
    let bears : (g.S.File.Image.seen c.into_file.result).name ≡ (g.S.File.Image.seen c.in_ok-file.file).name =
    rw c.into_file.ensures (given_bears (g.S.File.Image.seen c.in_ok-file.file) (g.S.File.Image.seen c.restore_from-result.new.source.file) c.new-clone.result.given c.restore_from-result.new.source.given
    (rw c.new-clone.ensures.file at c.restore_from-result.ensures.kept)) in
    let holds : (g.S.File.Image.seen c.into_file.result).content ≡ (g.S.File.Image.seen c.in_ok-file.file).content =
    rw c.into_file.ensures (given_holds (g.S.File.Image.seen c.in_ok-file.file) (g.S.File.Image.seen c.restore_from-result.new.source.file) c.new-clone.result.given c.restore_from-result.new.source.given
    (rw c.new-clone.ensures.file at c.restore_from-result.ensures.kept)) in
    let inside : IsTrue (g.S.File.Image.seen c.new-clone.result.file).is_told = rw c.new-clone.ensures.file (c.in_ok-file.ensures.file.told ∙ told) in
    let shelf : IsTrue (g.S.Shelf.seen c.attach_file.new.shelf).is_told = held_told g.S.Shelf g.S.File.Image c.args.shelf.now c.attach_file.new.shelf c.restore_from-result.new.shelf c.release.new.self c.in_ok-file.file c.into_file.result c.args.source.now
    c.in_ok-file.ensures.file c.in_ok-file.ensures.attached bears holds ∙ told in
    let held = held_files g.S.Shelf g.S.File.Image c.args.shelf.now c.attach_file.new.shelf c.restore_from-result.new.shelf c.release.new.self c.in_ok-file.file c.into_file.result c.args.source.now
    c.in_ok-file.ensures.file c.in_ok-file.ensures.attached bears holds in
    let files = read_files g.S.Shelf g.S.File.Image c.args.shelf.now c.attach_file.new.shelf c.restore_from-result.new.shelf c.release.new.self c.in_ok-file.file c.into_file.result c.args.source.now
    c.in_ok-file.ensures.file c.in_ok-file.ensures.attached bears holds
    (λ told. others_at r.output.now c.args.source.now _ _ c.requires.apart (c.restore_from-result.ensures.others shelf)) c.restore_from-result.ensures.makes.told c.release.ensures.released in
    let bytes : to_come (source_of (g.S.File.Image.seen c.new-clone.result.file) c.new-clone.result.given) ≡ image =
    unread_bytes (g.S.File.Image.seen c.new-clone.result.file) c.new-clone.result.given c.new-clone.ensures.given ∙ ap (λ f. (g.S.File.Image.seen f).content) c.new-clone.ensures.file in
    subst (λ work. Ends (outcome_or before work) status (g.S.Shelf.seen c.release.new.self).files)
    (sym (restore_read r.output.now r.overwrite c.args.source.now before image (c.in_ok-file.ensures.gives told)))
    (subst (λ left. Ends (outcome_or before (restored_image r.output.now r.overwrite image before)) status left) (sym files)
    (subst (λ files. Ends (outcome_or files (restored_image r.output.now r.overwrite image files)) status (g.S.Shelf.seen c.restore_from-result.new.shelf).files) held
    (subst (λ image. Ends (outcome_or (g.S.Shelf.seen c.attach_file.new.shelf).files (restored_image r.output.now r.overwrite image (g.S.Shelf.seen c.attach_file.new.shelf).files)) status (g.S.Shelf.seen c.restore_from-result.new.shelf).files) bytes
    (c.restore_from-result.ensures.ends shelf inside))))

pub returns-clause-left : goal.returns-clause-left
returns-clause-left g c told =
    let r = c.args.request.now in
    let before = (g.S.Shelf.seen c.args.shelf.now).files in
    let image = (g.S.File.Image.seen c.in_ok-file.file).content in
    let bears : (g.S.File.Image.seen c.into_file.result).name ≡ (g.S.File.Image.seen c.in_ok-file.file).name =
    rw c.into_file.ensures (given_bears (g.S.File.Image.seen c.in_ok-file.file) (g.S.File.Image.seen c.restore_from-result.new.source.file) c.new-clone.result.given c.restore_from-result.new.source.given
    (rw c.new-clone.ensures.file at c.restore_from-result.ensures.kept)) in
    let holds : (g.S.File.Image.seen c.into_file.result).content ≡ (g.S.File.Image.seen c.in_ok-file.file).content =
    rw c.into_file.ensures (given_holds (g.S.File.Image.seen c.in_ok-file.file) (g.S.File.Image.seen c.restore_from-result.new.source.file) c.new-clone.result.given c.restore_from-result.new.source.given
    (rw c.new-clone.ensures.file at c.restore_from-result.ensures.kept)) in
    let inside : IsTrue (g.S.File.Image.seen c.new-clone.result.file).is_told = rw c.new-clone.ensures.file (c.in_ok-file.ensures.file.told ∙ told) in
    let shelf : IsTrue (g.S.Shelf.seen c.attach_file.new.shelf).is_told = held_told g.S.Shelf g.S.File.Image c.args.shelf.now c.attach_file.new.shelf c.restore_from-result.new.shelf c.release.new.self c.in_ok-file.file c.into_file.result c.args.source.now
    c.in_ok-file.ensures.file c.in_ok-file.ensures.attached bears holds ∙ told in
    let held = held_files g.S.Shelf g.S.File.Image c.args.shelf.now c.attach_file.new.shelf c.restore_from-result.new.shelf c.release.new.self c.in_ok-file.file c.into_file.result c.args.source.now
    c.in_ok-file.ensures.file c.in_ok-file.ensures.attached bears holds in
    let files = read_files g.S.Shelf g.S.File.Image c.args.shelf.now c.attach_file.new.shelf c.restore_from-result.new.shelf c.release.new.self c.in_ok-file.file c.into_file.result c.args.source.now
    c.in_ok-file.ensures.file c.in_ok-file.ensures.attached bears holds
    (λ told. others_at r.output.now c.args.source.now _ _ c.requires.apart (c.restore_from-result.ensures.others shelf)) c.restore_from-result.ensures.makes.told c.release.ensures.released in
    let bytes : to_come (source_of (g.S.File.Image.seen c.new-clone.result.file) c.new-clone.result.given) ≡ image =
    unread_bytes (g.S.File.Image.seen c.new-clone.result.file) c.new-clone.result.given c.new-clone.ensures.given ∙ ap (λ f. (g.S.File.Image.seen f).content) c.new-clone.ensures.file in
    let left = subst (λ left. LeavesOutput r.output.now r.overwrite (IsRestoredFrom image) before left) (sym files)
    (subst (λ files. LeavesOutput r.output.now r.overwrite (IsRestoredFrom image) files (g.S.Shelf.seen c.restore_from-result.new.shelf).files) held
    (subst (λ image. LeavesOutput r.output.now r.overwrite (IsRestoredFrom image) (g.S.Shelf.seen c.attach_file.new.shelf).files (g.S.Shelf.seen c.restore_from-result.new.shelf).files) bytes
    (c.restore_from-result.ensures.left shelf inside))) in
    leaves_map r.output.now r.overwrite (IsRestoredFrom image) _ _ _ (λ bytes is. (image, c.in_ok-file.ensures.gives told, is)) left

pub returns-clause-others : goal.returns-clause-others
returns-clause-others g c told =
    let r = c.args.request.now in
    let bears : (g.S.File.Image.seen c.into_file.result).name ≡ (g.S.File.Image.seen c.in_ok-file.file).name =
    rw c.into_file.ensures (given_bears (g.S.File.Image.seen c.in_ok-file.file) (g.S.File.Image.seen c.restore_from-result.new.source.file) c.new-clone.result.given c.restore_from-result.new.source.given
    (rw c.new-clone.ensures.file at c.restore_from-result.ensures.kept)) in
    let holds : (g.S.File.Image.seen c.into_file.result).content ≡ (g.S.File.Image.seen c.in_ok-file.file).content =
    rw c.into_file.ensures (given_holds (g.S.File.Image.seen c.in_ok-file.file) (g.S.File.Image.seen c.restore_from-result.new.source.file) c.new-clone.result.given c.restore_from-result.new.source.given
    (rw c.new-clone.ensures.file at c.restore_from-result.ensures.kept)) in
    let inside : IsTrue (g.S.File.Image.seen c.new-clone.result.file).is_told = rw c.new-clone.ensures.file (c.in_ok-file.ensures.file.told ∙ told) in
    let shelf : IsTrue (g.S.Shelf.seen c.attach_file.new.shelf).is_told = held_told g.S.Shelf g.S.File.Image c.args.shelf.now c.attach_file.new.shelf c.restore_from-result.new.shelf c.release.new.self c.in_ok-file.file c.into_file.result c.args.source.now
    c.in_ok-file.ensures.file c.in_ok-file.ensures.attached bears holds ∙ told in
    let held = held_files g.S.Shelf g.S.File.Image c.args.shelf.now c.attach_file.new.shelf c.restore_from-result.new.shelf c.release.new.self c.in_ok-file.file c.into_file.result c.args.source.now
    c.in_ok-file.ensures.file c.in_ok-file.ensures.attached bears holds in
    let files = read_files g.S.Shelf g.S.File.Image c.args.shelf.now c.attach_file.new.shelf c.restore_from-result.new.shelf c.release.new.self c.in_ok-file.file c.into_file.result c.args.source.now
    c.in_ok-file.ensures.file c.in_ok-file.ensures.attached bears holds
    (λ told. others_at r.output.now c.args.source.now _ _ c.requires.apart (c.restore_from-result.ensures.others shelf)) c.restore_from-result.ensures.makes.told c.release.ensures.released in
    subst (λ left. KeepsOtherFiles r.output.now (g.S.Shelf.seen c.args.shelf.now).files left) (sym files)
    (subst (λ files. KeepsOtherFiles r.output.now files (g.S.Shelf.seen c.restore_from-result.new.shelf).files) held (c.restore_from-result.ensures.others shelf))

pub returns-clause-shows : goal.returns-clause-shows
returns-clause-shows g c =
    let bears : (g.S.File.Image.seen c.into_file.result).name ≡ (g.S.File.Image.seen c.in_ok-file.file).name =
    rw c.into_file.ensures (given_bears (g.S.File.Image.seen c.in_ok-file.file) (g.S.File.Image.seen c.restore_from-result.new.source.file) c.new-clone.result.given c.restore_from-result.new.source.given
    (rw c.new-clone.ensures.file at c.restore_from-result.ensures.kept)) in
    let holds : (g.S.File.Image.seen c.into_file.result).content ≡ (g.S.File.Image.seen c.in_ok-file.file).content =
    rw c.into_file.ensures (given_holds (g.S.File.Image.seen c.in_ok-file.file) (g.S.File.Image.seen c.restore_from-result.new.source.file) c.new-clone.result.given c.restore_from-result.new.source.given
    (rw c.new-clone.ensures.file at c.restore_from-result.ensures.kept)) in
    shelf_kept g.S.Shelf g.S.File.Image c.args.shelf.now c.attach_file.new.shelf c.restore_from-result.new.shelf c.release.new.self c.in_ok-file.file c.into_file.result c.args.source.now
    c.in_ok-file.ensures.file c.in_ok-file.ensures.attached bears holds c.args.request.now.output.now c.restore_from-result.ensures.shows c.release.ensures.released

pub returns-clause-makes : goal.returns-clause-makes
returns-clause-makes g c =
    let r = c.args.request.now in
    let bears : (g.S.File.Image.seen c.into_file.result).name ≡ (g.S.File.Image.seen c.in_ok-file.file).name =
    rw c.into_file.ensures (given_bears (g.S.File.Image.seen c.in_ok-file.file) (g.S.File.Image.seen c.restore_from-result.new.source.file) c.new-clone.result.given c.restore_from-result.new.source.given
    (rw c.new-clone.ensures.file at c.restore_from-result.ensures.kept)) in
    let holds : (g.S.File.Image.seen c.into_file.result).content ≡ (g.S.File.Image.seen c.in_ok-file.file).content =
    rw c.into_file.ensures (given_holds (g.S.File.Image.seen c.in_ok-file.file) (g.S.File.Image.seen c.restore_from-result.new.source.file) c.new-clone.result.given c.restore_from-result.new.source.given
    (rw c.new-clone.ensures.file at c.restore_from-result.ensures.kept)) in
    read_makes g.S.Shelf g.S.File.Image c.args.shelf.now c.attach_file.new.shelf c.restore_from-result.new.shelf c.release.new.self c.in_ok-file.file c.into_file.result c.args.source.now
    c.in_ok-file.ensures.file c.in_ok-file.ensures.attached bears holds (ImageRefuses r.output.now r.overwrite) (RestoreRefuses r.output.now r.overwrite (Some c.args.source.now)) c.restore_from-result.result
    (image_in_named r.output.now r.overwrite c.args.source.now) c.in_ok-file.ensures.counts
    (rw (c.into_file.ensures, sym c.new-clone.ensures.file) c.restore_from-result.ensures.makes)
    c.release.ensures.released c.release.ensures.reads c.release.ensures.counts
