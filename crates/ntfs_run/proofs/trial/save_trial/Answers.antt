use Rattle.std.proofs.Common.{IsSome, IsTrue, OnOk, Some, ap, false, refl, sym, subst, true, ◌∙◌}
use Rattle.std.proofs.lemmas.Result.{err_from_is_err_and}
use Rattle.ntfs_base.specs.Shelf.{file_of}
use Rattle.ntfs_run.specs.Clone.{IsSavedFrom, LeavesOutput}
use Rattle.ntfs_run.specs.Job.{IsSavedOf, saved_from}
use Rattle.ntfs_run.specs.Outcome.{Does, KeepsOtherFiles, outcome_or, status_of}
use Rattle.ntfs_run.proofs.OutputLemmas.{leaves_map}
use Rattle.ntfs_run.proofs.ReturnLemmas.{is_free, read_is_attached}
use Rattle.ntfs_run.proofs.ToolLemmas.{does_refused}
use Rattle.ntfs_run.proofs.TrialLemmas.{attach_runs, file_saved, found, none_saved, output_absent, read_runs, through}
use Rattle.ntfs_run.proofs.trial.save_trial.Goals as goal

pub returns-in_err-file-clause-does : goal.returns-in_err-file-clause-does
returns-in_err-file-clause-does g c told =
    let p = err_from_is_err_and c.from_residual.result c.from_residual.ensures.1 in
    rw (p.1, p.2) (does_refused _ _ _ _ _ _ refl (ap (λ shelf. shelf.files) c.in_err-file.ensures.refused)
    (λ settled. none_saved c.args.name.now c.args.clone.now _ _ (c.in_err-file.ensures.gives told settled)))

pub returns-in_err-file-clause-runs : goal.returns-in_err-file-clause-runs
returns-in_err-file-clause-runs g c =
    let p = err_from_is_err_and c.from_residual.result c.from_residual.ensures.1 in
    rw (p.1, p.2) (attach_runs g.S.Shelf g.O.Sink c.args.shelf.now _ _ _ c.requires.attached c.in_err-file.ensures.refused c.in_err-file.ensures.counts
    c.in_err-file.ensures.cause (output_absent _ c.in_err-file.ensures.refusal) tt)

pub save_attached-result-requires : goal.save_attached-result-requires
save_attached-result-requires g c =
    is_free c.args.name.now c.args.clone.now (g.S.Shelf.seen c.args.shelf.now) _ c.requires.attached c.in_ok-file.ensures.attached c.requires.apart

pub release-requires : goal.release-requires
release-requires g c =
    read_is_attached g.S.Shelf g.S.File.Image c.args.shelf.now c.attach_file.new.shelf c.save_attached-result.new.shelf c.save_attached-result.new.shelf
    c.in_ok-file.file c.save_attached-result.new.image c.args.name.now c.in_ok-file.ensures.file c.in_ok-file.ensures.attached
    (ap (λ i. i.name) c.save_attached-result.ensures.seen) (ap (λ i. i.content) c.save_attached-result.ensures.seen) c.save_attached-result.ensures.makes.attached

pub returns-clause-does : goal.returns-clause-does
returns-clause-does g c told =
    let inside : IsTrue (g.S.File.Image.seen c.in_ok-file.file).is_told = c.in_ok-file.ensures.file.told ∙ told in
    let image = (g.S.File.Image.seen c.in_ok-file.file).content in
    let status = status_of c.save_attached-result.result in
    let before = g.O.Sink.seen c.args.out.now in
    let after = g.O.Sink.seen c.save_attached-result.new.out in
    subst (λ work. Does (outcome_or (g.S.Shelf.seen c.args.shelf.now).files work) status before after (g.S.Shelf.seen c.release.new.self).files)
    (sym (file_saved c.args.name.now c.args.clone.now (g.S.Shelf.seen c.args.shelf.now).files image (c.in_ok-file.ensures.gives told)))
    (through g.S.Shelf g.S.File.Image c.args.shelf.now c.attach_file.new.shelf c.save_attached-result.new.shelf c.release.new.self c.in_ok-file.file
    c.save_attached-result.new.image c.args.name.now (λ files left. Does (outcome_or files (saved_from c.args.clone.now image files)) status before after left)
    c.in_ok-file.ensures.file c.in_ok-file.ensures.attached (ap (λ i. i.name) c.save_attached-result.ensures.seen) (ap (λ i. i.content) c.save_attached-result.ensures.seen)
    c.save_attached-result.ensures.makes.told c.release.ensures.released (λ shelf. c.save_attached-result.ensures.others shelf c.args.name.now c.requires.apart)
    (λ shelf. c.save_attached-result.ensures.does inside shelf) told)

pub returns-clause-left : goal.returns-clause-left
returns-clause-left g c told =
    let inside : IsTrue (g.S.File.Image.seen c.in_ok-file.file).is_told = c.in_ok-file.ensures.file.told ∙ told in
    let image = (g.S.File.Image.seen c.in_ok-file.file).content in
    let files = (g.S.Shelf.seen c.args.shelf.now).files in
    leaves_map (Some c.args.clone.now) false (IsSavedFrom true true image) (IsSavedOf c.args.name.now files) files (g.S.Shelf.seen c.release.new.self).files
    (λ bytes is. (image, found _ _ image (c.in_ok-file.ensures.gives told), is))
    (through g.S.Shelf g.S.File.Image c.args.shelf.now c.attach_file.new.shelf c.save_attached-result.new.shelf c.release.new.self c.in_ok-file.file
    c.save_attached-result.new.image c.args.name.now (λ files left. LeavesOutput (Some c.args.clone.now) false (IsSavedFrom true true image) files left)
    c.in_ok-file.ensures.file c.in_ok-file.ensures.attached (ap (λ i. i.name) c.save_attached-result.ensures.seen) (ap (λ i. i.content) c.save_attached-result.ensures.seen)
    c.save_attached-result.ensures.makes.told c.release.ensures.released (λ shelf. c.save_attached-result.ensures.others shelf c.args.name.now c.requires.apart)
    (λ shelf. c.save_attached-result.ensures.left inside shelf) told)

pub returns-clause-made : goal.returns-clause-made
returns-clause-made g c told =
    let inside : IsTrue (g.S.File.Image.seen c.in_ok-file.file).is_told = c.in_ok-file.ensures.file.told ∙ told in
    through g.S.Shelf g.S.File.Image c.args.shelf.now c.attach_file.new.shelf c.save_attached-result.new.shelf c.release.new.self c.in_ok-file.file
    c.save_attached-result.new.image c.args.name.now (λ files left. OnOk c.save_attached-result.result (IsSome (file_of left c.args.clone.now)))
    c.in_ok-file.ensures.file c.in_ok-file.ensures.attached (ap (λ i. i.name) c.save_attached-result.ensures.seen) (ap (λ i. i.content) c.save_attached-result.ensures.seen)
    c.save_attached-result.ensures.makes.told c.release.ensures.released (λ shelf. c.save_attached-result.ensures.others shelf c.args.name.now c.requires.apart)
    (λ shelf. c.save_attached-result.ensures.made inside shelf) told

pub returns-clause-others : goal.returns-clause-others
returns-clause-others g c told =
    through g.S.Shelf g.S.File.Image c.args.shelf.now c.attach_file.new.shelf c.save_attached-result.new.shelf c.release.new.self c.in_ok-file.file
    c.save_attached-result.new.image c.args.name.now (λ files left. KeepsOtherFiles (Some c.args.clone.now) files left)
    c.in_ok-file.ensures.file c.in_ok-file.ensures.attached (ap (λ i. i.name) c.save_attached-result.ensures.seen) (ap (λ i. i.content) c.save_attached-result.ensures.seen)
    c.save_attached-result.ensures.makes.told c.release.ensures.released (λ shelf. c.save_attached-result.ensures.others shelf c.args.name.now c.requires.apart)
    (λ shelf. c.save_attached-result.ensures.others shelf) told

pub returns-clause-runs : goal.returns-clause-runs
returns-clause-runs g c =
    read_runs g.S.Shelf g.S.File.Image g.O.Sink c.args.shelf.now c.attach_file.new.shelf c.save_attached-result.new.shelf c.release.new.self c.in_ok-file.file
    c.save_attached-result.new.image _ _ c.args.name.now c.save_attached-result.result c.requires.attached c.in_ok-file.ensures.file c.in_ok-file.ensures.attached
    (ap (λ i. i.name) c.save_attached-result.ensures.seen) (ap (λ i. i.content) c.save_attached-result.ensures.seen) c.in_ok-file.ensures.counts
    c.save_attached-result.ensures.makes c.release.ensures.released c.release.ensures.reads c.release.ensures.counts
