use Rattle.std.proofs.Common.{IsTrue, Some, ap, sym, subst, ◌∙◌}
use Rattle.std.proofs.lemmas.Result.{err_from_is_err_and}
use Rattle.ntfs_run.specs.Clone.{IsSavedFrom, LeavesOutput, SaveRefuses, saved_image}
use Rattle.ntfs_run.specs.Outcome.{Ends, KeepsOtherFiles, outcome_of, status_of}
use Rattle.ntfs_run.proofs.CloneLemmas.{work_refused, work_saved}
use Rattle.ntfs_run.proofs.OutputLemmas.{ends_refused, leaves_map}
use Rattle.ntfs_run.proofs.ReturnLemmas.{is_free, held_files, held_told, read_files, read_is_attached, read_makes}
use Rattle.ntfs_run.proofs.clone.save_named.Goals as goal

pub returns-in_err-file-clause-ends : goal.returns-in_err-file-clause-ends
returns-in_err-file-clause-ends g c told =
    let r = c.args.request.now in
    let p = err_from_is_err_and c.from_residual.result c.from_residual.ensures.1 in
    rw (p.1, p.2) (ends_refused _ _ _ _ (ap (λ shelf. shelf.files) c.in_err-file.ensures.refused)
    (λ settled. work_refused r.save r.force (Some c.args.output.now) r.overwrite c.args.source.now _ _ (c.in_err-file.ensures.gives told settled)))

pub save_image-result-requires : goal.save_image-result-requires
save_image-result-requires g c = is_free c.args.source.now c.args.output.now (g.S.Shelf.seen c.args.shelf.now) _ c.requires.attached c.in_ok-file.ensures.attached c.requires.apart

pub release-requires : goal.release-requires
release-requires g c = read_is_attached g.S.Shelf g.S.File.Image c.args.shelf.now c.attach_file.new.shelf c.save_image-result.new.shelf c.save_image-result.new.shelf c.in_ok-file.file c.save_image-result.new.image c.args.source.now
    c.in_ok-file.ensures.file c.in_ok-file.ensures.attached (ap (λ i. i.name) c.save_image-result.ensures.seen) (ap (λ i. i.content) c.save_image-result.ensures.seen) c.save_image-result.ensures.makes.attached

pub returns-clause-ends : goal.returns-clause-ends
returns-clause-ends g c told =
    let r = c.args.request.now in
    let before = (g.S.Shelf.seen c.args.shelf.now).files in
    let image = (g.S.File.Image.seen c.in_ok-file.file).content in
    let status = status_of c.save_image-result.result in
    let inside : IsTrue (g.S.File.Image.seen c.in_ok-file.file).is_told = c.in_ok-file.ensures.file.told ∙ told in
    let shelf : IsTrue (g.S.Shelf.seen c.attach_file.new.shelf).is_told = held_told g.S.Shelf g.S.File.Image c.args.shelf.now c.attach_file.new.shelf c.save_image-result.new.shelf c.release.new.self c.in_ok-file.file c.save_image-result.new.image c.args.source.now
    c.in_ok-file.ensures.file c.in_ok-file.ensures.attached (ap (λ i. i.name) c.save_image-result.ensures.seen) (ap (λ i. i.content) c.save_image-result.ensures.seen) ∙ told in
    let held = held_files g.S.Shelf g.S.File.Image c.args.shelf.now c.attach_file.new.shelf c.save_image-result.new.shelf c.release.new.self c.in_ok-file.file c.save_image-result.new.image c.args.source.now
    c.in_ok-file.ensures.file c.in_ok-file.ensures.attached (ap (λ i. i.name) c.save_image-result.ensures.seen) (ap (λ i. i.content) c.save_image-result.ensures.seen) in
    let files = read_files g.S.Shelf g.S.File.Image c.args.shelf.now c.attach_file.new.shelf c.save_image-result.new.shelf c.release.new.self c.in_ok-file.file c.save_image-result.new.image c.args.source.now
    c.in_ok-file.ensures.file c.in_ok-file.ensures.attached (ap (λ i. i.name) c.save_image-result.ensures.seen) (ap (λ i. i.content) c.save_image-result.ensures.seen)
    (λ told. c.save_image-result.ensures.others shelf c.args.source.now c.requires.apart) c.save_image-result.ensures.makes.told c.release.ensures.released in
    subst (λ work. Ends (outcome_of before work) status (g.S.Shelf.seen c.release.new.self).files)
    (sym (work_saved r.save r.force (Some c.args.output.now) r.overwrite c.args.source.now before image (c.in_ok-file.ensures.gives told)))
    (subst (λ left. Ends (outcome_of before (saved_image r.save r.force (Some c.args.output.now) r.overwrite image before)) status left) (sym files)
    (subst (λ files. Ends (outcome_of files (saved_image r.save r.force (Some c.args.output.now) r.overwrite image files)) status (g.S.Shelf.seen c.save_image-result.new.shelf).files) held
    (c.save_image-result.ensures.ends inside shelf)))

pub returns-clause-left : goal.returns-clause-left
returns-clause-left g c told =
    let r = c.args.request.now in
    let before = (g.S.Shelf.seen c.args.shelf.now).files in
    let image = (g.S.File.Image.seen c.in_ok-file.file).content in
    let inside : IsTrue (g.S.File.Image.seen c.in_ok-file.file).is_told = c.in_ok-file.ensures.file.told ∙ told in
    let shelf : IsTrue (g.S.Shelf.seen c.attach_file.new.shelf).is_told = held_told g.S.Shelf g.S.File.Image c.args.shelf.now c.attach_file.new.shelf c.save_image-result.new.shelf c.release.new.self c.in_ok-file.file c.save_image-result.new.image c.args.source.now
    c.in_ok-file.ensures.file c.in_ok-file.ensures.attached (ap (λ i. i.name) c.save_image-result.ensures.seen) (ap (λ i. i.content) c.save_image-result.ensures.seen) ∙ told in
    let held = held_files g.S.Shelf g.S.File.Image c.args.shelf.now c.attach_file.new.shelf c.save_image-result.new.shelf c.release.new.self c.in_ok-file.file c.save_image-result.new.image c.args.source.now
    c.in_ok-file.ensures.file c.in_ok-file.ensures.attached (ap (λ i. i.name) c.save_image-result.ensures.seen) (ap (λ i. i.content) c.save_image-result.ensures.seen) in
    let files = read_files g.S.Shelf g.S.File.Image c.args.shelf.now c.attach_file.new.shelf c.save_image-result.new.shelf c.release.new.self c.in_ok-file.file c.save_image-result.new.image c.args.source.now
    c.in_ok-file.ensures.file c.in_ok-file.ensures.attached (ap (λ i. i.name) c.save_image-result.ensures.seen) (ap (λ i. i.content) c.save_image-result.ensures.seen)
    (λ told. c.save_image-result.ensures.others shelf c.args.source.now c.requires.apart) c.save_image-result.ensures.makes.told c.release.ensures.released in
    let left = subst (λ left. LeavesOutput (Some c.args.output.now) r.overwrite (IsSavedFrom r.save r.force image) before left) (sym files)
    (subst (λ files. LeavesOutput (Some c.args.output.now) r.overwrite (IsSavedFrom r.save r.force image) files (g.S.Shelf.seen c.save_image-result.new.shelf).files) held
    (c.save_image-result.ensures.left inside shelf)) in
    leaves_map (Some c.args.output.now) r.overwrite (IsSavedFrom r.save r.force image) _ _ _ (λ bytes is. (image, c.in_ok-file.ensures.gives told, is)) left

pub returns-clause-others : goal.returns-clause-others
returns-clause-others g c told =
    let shelf : IsTrue (g.S.Shelf.seen c.attach_file.new.shelf).is_told = held_told g.S.Shelf g.S.File.Image c.args.shelf.now c.attach_file.new.shelf c.save_image-result.new.shelf c.release.new.self c.in_ok-file.file c.save_image-result.new.image c.args.source.now
    c.in_ok-file.ensures.file c.in_ok-file.ensures.attached (ap (λ i. i.name) c.save_image-result.ensures.seen) (ap (λ i. i.content) c.save_image-result.ensures.seen) ∙ told in
    let held = held_files g.S.Shelf g.S.File.Image c.args.shelf.now c.attach_file.new.shelf c.save_image-result.new.shelf c.release.new.self c.in_ok-file.file c.save_image-result.new.image c.args.source.now
    c.in_ok-file.ensures.file c.in_ok-file.ensures.attached (ap (λ i. i.name) c.save_image-result.ensures.seen) (ap (λ i. i.content) c.save_image-result.ensures.seen) in
    let files = read_files g.S.Shelf g.S.File.Image c.args.shelf.now c.attach_file.new.shelf c.save_image-result.new.shelf c.release.new.self c.in_ok-file.file c.save_image-result.new.image c.args.source.now
    c.in_ok-file.ensures.file c.in_ok-file.ensures.attached (ap (λ i. i.name) c.save_image-result.ensures.seen) (ap (λ i. i.content) c.save_image-result.ensures.seen)
    (λ told. c.save_image-result.ensures.others shelf c.args.source.now c.requires.apart) c.save_image-result.ensures.makes.told c.release.ensures.released in
    subst (λ left. KeepsOtherFiles (Some c.args.output.now) (g.S.Shelf.seen c.args.shelf.now).files left) (sym files)
    (subst (λ files. KeepsOtherFiles (Some c.args.output.now) files (g.S.Shelf.seen c.save_image-result.new.shelf).files) held (c.save_image-result.ensures.others shelf))

pub returns-clause-makes : goal.returns-clause-makes
returns-clause-makes g c =
    let refuses = SaveRefuses c.args.request.now.force (Some c.args.output.now) c.args.request.now.overwrite in
    read_makes g.S.Shelf g.S.File.Image c.args.shelf.now c.attach_file.new.shelf c.save_image-result.new.shelf c.release.new.self c.in_ok-file.file c.save_image-result.new.image c.args.source.now
    c.in_ok-file.ensures.file c.in_ok-file.ensures.attached (ap (λ i. i.name) c.save_image-result.ensures.seen) (ap (λ i. i.content) c.save_image-result.ensures.seen) refuses refuses c.save_image-result.result (λ fault is. is) c.in_ok-file.ensures.counts c.save_image-result.ensures.makes
    c.release.ensures.released c.release.ensures.reads c.release.ensures.counts
