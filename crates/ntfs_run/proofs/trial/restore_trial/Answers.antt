use Rattle.std.proofs.Common.{◌≡◌, IsTrue, Some, ap, false, length, refl, sym, subst, ◌∙◌}
use Rattle.std.proofs.lemmas.Result.{err_from_is_err_and}
use Rattle.ntfs_base.specs.FileStream.{source_of}
use Rattle.ntfs_clone.specs.Taking.{to_come}
use Rattle.ntfs_run.specs.Clone.{IsRestoredFrom, LeavesOutput}
use Rattle.ntfs_run.specs.Job.{IsRestoredOf, restored_behind_line}
use Rattle.ntfs_run.specs.Outcome.{Does, KeepsOtherFiles, status_of}
use Rattle.ntfs_run.proofs.OutputLemmas.{leaves_map}
use Rattle.ntfs_run.proofs.RestoreLemmas.{given_bears, given_holds, unread_bytes}
use Rattle.ntfs_run.proofs.ReturnLemmas.{is_free, read_is_attached}
use Rattle.ntfs_run.proofs.ToolLemmas.{does_refused}
use Rattle.ntfs_run.proofs.TrialLemmas.{attach_runs, clone_absent, file_restored, found, none_restored, read_runs, through}
use Rattle.ntfs_run.proofs.trial.restore_trial.Goals as goal

pub returns-in_err-file-clause-does : goal.returns-in_err-file-clause-does
returns-in_err-file-clause-does g c told =
    let p = err_from_is_err_and c.from_residual.result c.from_residual.ensures.1 in
    rw (p.1, p.2) (does_refused _ _ _ _ _ _ refl (ap (λ shelf. shelf.files) c.in_err-file.ensures.refused)
    (λ settled. none_restored c.args.clone.now c.args.back.now _ _ (c.in_err-file.ensures.gives told settled)))

pub returns-in_err-file-clause-runs : goal.returns-in_err-file-clause-runs
returns-in_err-file-clause-runs g c =
    let p = err_from_is_err_and c.from_residual.result c.from_residual.ensures.1 in
    rw (p.1, p.2) (attach_runs g.S.Shelf g.O.Sink c.args.shelf.now _ _ _ c.requires.attached c.in_err-file.ensures.refused c.in_err-file.ensures.counts
    c.in_err-file.ensures.cause (clone_absent _ c.in_err-file.ensures.refusal) tt)

pub restore_attached-result-requires : goal.restore_attached-result-requires
restore_attached-result-requires g c =
    is_free c.args.clone.now c.args.back.now (g.S.Shelf.seen c.args.shelf.now) _ c.requires.attached c.in_ok-file.ensures.attached c.requires.apart

pub release-requires : goal.release-requires
release-requires g c =
    let bears : (g.S.File.Image.seen c.into_file.result).name ≡ (g.S.File.Image.seen c.in_ok-file.file).name =
    rw c.into_file.ensures (given_bears (g.S.File.Image.seen c.in_ok-file.file) (g.S.File.Image.seen c.restore_attached-result.new.source.file)
    c.new-source.result.given c.restore_attached-result.new.source.given (rw c.new-source.ensures.file at c.restore_attached-result.ensures.kept)) in
    let holds : (g.S.File.Image.seen c.into_file.result).content ≡ (g.S.File.Image.seen c.in_ok-file.file).content =
    rw c.into_file.ensures (given_holds (g.S.File.Image.seen c.in_ok-file.file) (g.S.File.Image.seen c.restore_attached-result.new.source.file)
    c.new-source.result.given c.restore_attached-result.new.source.given (rw c.new-source.ensures.file at c.restore_attached-result.ensures.kept)) in
    read_is_attached g.S.Shelf g.S.File.Image c.args.shelf.now c.attach_file.new.shelf c.restore_attached-result.new.shelf c.restore_attached-result.new.shelf
    c.in_ok-file.file c.into_file.result c.args.clone.now c.in_ok-file.ensures.file c.in_ok-file.ensures.attached bears holds c.restore_attached-result.ensures.makes.attached

pub returns-clause-does : goal.returns-clause-does
returns-clause-does g c told =
    let bears : (g.S.File.Image.seen c.into_file.result).name ≡ (g.S.File.Image.seen c.in_ok-file.file).name =
    rw c.into_file.ensures (given_bears (g.S.File.Image.seen c.in_ok-file.file) (g.S.File.Image.seen c.restore_attached-result.new.source.file)
    c.new-source.result.given c.restore_attached-result.new.source.given (rw c.new-source.ensures.file at c.restore_attached-result.ensures.kept)) in
    let holds : (g.S.File.Image.seen c.into_file.result).content ≡ (g.S.File.Image.seen c.in_ok-file.file).content =
    rw c.into_file.ensures (given_holds (g.S.File.Image.seen c.in_ok-file.file) (g.S.File.Image.seen c.restore_attached-result.new.source.file)
    c.new-source.result.given c.restore_attached-result.new.source.given (rw c.new-source.ensures.file at c.restore_attached-result.ensures.kept)) in
    let inside : IsTrue (g.S.File.Image.seen c.new-source.result.file).is_told = rw c.new-source.ensures.file (c.in_ok-file.ensures.file.told ∙ told) in
    let image = (g.S.File.Image.seen c.in_ok-file.file).content in
    let bytes : to_come (source_of (g.S.File.Image.seen c.new-source.result.file) c.new-source.result.given) ≡ image =
    unread_bytes (g.S.File.Image.seen c.new-source.result.file) c.new-source.result.given c.new-source.ensures.given
    ∙ ap (λ f. (g.S.File.Image.seen f).content) c.new-source.ensures.file in
    let status = status_of c.restore_attached-result.result in
    let before = g.O.Sink.seen c.args.out.now in
    let after = g.O.Sink.seen c.restore_attached-result.new.out in
    let back = c.args.back.now in
    let len : c.len-len.result ≡ length image = c.len-len.ensures.size ∙ sym (c.len-len.ensures.told (c.in_ok-file.ensures.file.told ∙ told)) in
    subst (λ o. Does o status before after (g.S.Shelf.seen c.release.new.self).files)
    (sym (file_restored c.args.clone.now back (g.S.Shelf.seen c.args.shelf.now).files image (c.in_ok-file.ensures.gives told)))
    (through g.S.Shelf g.S.File.Image c.args.shelf.now c.attach_file.new.shelf c.restore_attached-result.new.shelf c.release.new.self c.in_ok-file.file
    c.into_file.result c.args.clone.now (λ files left. Does (restored_behind_line (length image) back image files) status before after left)
    c.in_ok-file.ensures.file c.in_ok-file.ensures.attached bears holds c.restore_attached-result.ensures.makes.told c.release.ensures.released
    (λ shelf. c.restore_attached-result.ensures.others shelf c.args.clone.now c.requires.apart)
    (λ shelf. subst (λ n. Does (restored_behind_line n back image (g.S.Shelf.seen c.attach_file.new.shelf).files) status before after
    (g.S.Shelf.seen c.restore_attached-result.new.shelf).files) len
    (subst (λ image. Does (restored_behind_line c.len-len.result back image (g.S.Shelf.seen c.attach_file.new.shelf).files) status before after
    (g.S.Shelf.seen c.restore_attached-result.new.shelf).files) bytes (c.restore_attached-result.ensures.does shelf inside))) told)

pub returns-clause-left : goal.returns-clause-left
returns-clause-left g c told =
    let bears : (g.S.File.Image.seen c.into_file.result).name ≡ (g.S.File.Image.seen c.in_ok-file.file).name =
    rw c.into_file.ensures (given_bears (g.S.File.Image.seen c.in_ok-file.file) (g.S.File.Image.seen c.restore_attached-result.new.source.file)
    c.new-source.result.given c.restore_attached-result.new.source.given (rw c.new-source.ensures.file at c.restore_attached-result.ensures.kept)) in
    let holds : (g.S.File.Image.seen c.into_file.result).content ≡ (g.S.File.Image.seen c.in_ok-file.file).content =
    rw c.into_file.ensures (given_holds (g.S.File.Image.seen c.in_ok-file.file) (g.S.File.Image.seen c.restore_attached-result.new.source.file)
    c.new-source.result.given c.restore_attached-result.new.source.given (rw c.new-source.ensures.file at c.restore_attached-result.ensures.kept)) in
    let inside : IsTrue (g.S.File.Image.seen c.new-source.result.file).is_told = rw c.new-source.ensures.file (c.in_ok-file.ensures.file.told ∙ told) in
    let image = (g.S.File.Image.seen c.in_ok-file.file).content in
    let bytes : to_come (source_of (g.S.File.Image.seen c.new-source.result.file) c.new-source.result.given) ≡ image =
    unread_bytes (g.S.File.Image.seen c.new-source.result.file) c.new-source.result.given c.new-source.ensures.given
    ∙ ap (λ f. (g.S.File.Image.seen f).content) c.new-source.ensures.file in
    let files = (g.S.Shelf.seen c.args.shelf.now).files in
    leaves_map (Some c.args.back.now) false (IsRestoredFrom image) (IsRestoredOf c.args.clone.now files) files (g.S.Shelf.seen c.release.new.self).files
    (λ bytes is. (image, found _ _ image (c.in_ok-file.ensures.gives told), is))
    (through g.S.Shelf g.S.File.Image c.args.shelf.now c.attach_file.new.shelf c.restore_attached-result.new.shelf c.release.new.self c.in_ok-file.file
    c.into_file.result c.args.clone.now (λ files left. LeavesOutput (Some c.args.back.now) false (IsRestoredFrom image) files left)
    c.in_ok-file.ensures.file c.in_ok-file.ensures.attached bears holds c.restore_attached-result.ensures.makes.told c.release.ensures.released
    (λ shelf. c.restore_attached-result.ensures.others shelf c.args.clone.now c.requires.apart)
    (λ shelf. subst (λ image. LeavesOutput (Some c.args.back.now) false (IsRestoredFrom image) (g.S.Shelf.seen c.attach_file.new.shelf).files
    (g.S.Shelf.seen c.restore_attached-result.new.shelf).files) bytes (c.restore_attached-result.ensures.left shelf inside)) told)

pub returns-clause-others : goal.returns-clause-others
returns-clause-others g c told =
    let bears : (g.S.File.Image.seen c.into_file.result).name ≡ (g.S.File.Image.seen c.in_ok-file.file).name =
    rw c.into_file.ensures (given_bears (g.S.File.Image.seen c.in_ok-file.file) (g.S.File.Image.seen c.restore_attached-result.new.source.file)
    c.new-source.result.given c.restore_attached-result.new.source.given (rw c.new-source.ensures.file at c.restore_attached-result.ensures.kept)) in
    let holds : (g.S.File.Image.seen c.into_file.result).content ≡ (g.S.File.Image.seen c.in_ok-file.file).content =
    rw c.into_file.ensures (given_holds (g.S.File.Image.seen c.in_ok-file.file) (g.S.File.Image.seen c.restore_attached-result.new.source.file)
    c.new-source.result.given c.restore_attached-result.new.source.given (rw c.new-source.ensures.file at c.restore_attached-result.ensures.kept)) in
    (through g.S.Shelf g.S.File.Image c.args.shelf.now c.attach_file.new.shelf c.restore_attached-result.new.shelf c.release.new.self c.in_ok-file.file
    c.into_file.result c.args.clone.now (λ files left. KeepsOtherFiles (Some c.args.back.now) files left)
    c.in_ok-file.ensures.file c.in_ok-file.ensures.attached bears holds c.restore_attached-result.ensures.makes.told c.release.ensures.released
    (λ shelf. c.restore_attached-result.ensures.others shelf c.args.clone.now c.requires.apart)
    (λ shelf. c.restore_attached-result.ensures.others shelf) told)

pub returns-clause-runs : goal.returns-clause-runs
returns-clause-runs g c =
    let bears : (g.S.File.Image.seen c.into_file.result).name ≡ (g.S.File.Image.seen c.in_ok-file.file).name =
    rw c.into_file.ensures (given_bears (g.S.File.Image.seen c.in_ok-file.file) (g.S.File.Image.seen c.restore_attached-result.new.source.file)
    c.new-source.result.given c.restore_attached-result.new.source.given (rw c.new-source.ensures.file at c.restore_attached-result.ensures.kept)) in
    let holds : (g.S.File.Image.seen c.into_file.result).content ≡ (g.S.File.Image.seen c.in_ok-file.file).content =
    rw c.into_file.ensures (given_holds (g.S.File.Image.seen c.in_ok-file.file) (g.S.File.Image.seen c.restore_attached-result.new.source.file)
    c.new-source.result.given c.restore_attached-result.new.source.given (rw c.new-source.ensures.file at c.restore_attached-result.ensures.kept)) in
    read_runs g.S.Shelf g.S.File.Image g.O.Sink c.args.shelf.now c.attach_file.new.shelf c.restore_attached-result.new.shelf c.release.new.self c.in_ok-file.file
    c.into_file.result _ _ c.args.clone.now c.restore_attached-result.result c.requires.attached c.in_ok-file.ensures.file c.in_ok-file.ensures.attached
    bears holds c.in_ok-file.ensures.counts (rw (c.into_file.ensures, sym c.new-source.ensures.file) c.restore_attached-result.ensures.makes)
    c.release.ensures.released c.release.ensures.reads c.release.ensures.counts
