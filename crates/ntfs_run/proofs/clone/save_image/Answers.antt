use Rattle.std.proofs.Common.{Err, Some, refl, sym, subst}
use Rattle.std.proofs.lemmas.Result.{err_from_is_err_and}
use Rattle.ntfs_base.specs.Causes.{Rose}
use Rattle.ntfs_base.specs.Frames.{IfFiles}
use Rattle.ntfs_base.proofs.FramesLemmas.{told_still}
use Rattle.ntfs_base.specs.declared.refusal.Named.TheVariants as named
use Rattle.ntfs_run.specs.Clone.{IsPartSaved, IsSavedFrom, LeavesOutput, SaveRefuses, saved_in, volume_in}
use Rattle.ntfs_run.specs.Filling.{OutputRefuses}
use Rattle.ntfs_run.specs.Outcome.{Ends, outcome_of, status_of}
use Rattle.ntfs_run.proofs.CloneLemmas.{image_refused, image_saved, output_saves, volume_saves}
use Rattle.ntfs_run.proofs.OutputLemmas.{ends_refused, leaves_map, makes_map, makes_none, rose_since}
use Rattle.ntfs_run.proofs.clone.save_image.Goals as goal

pub returns-in_err-checked-clause-ends : goal.returns-in_err-checked-clause-ends
returns-in_err-checked-clause-ends g c told shelf =
    let r = c.args.request.now in
    let p = err_from_is_err_and c.from_residual.result c.from_residual.ensures.1 in
    rw (p.1, p.2) (ends_refused _ _ _ _ refl (λ settled. image_refused r.save r.force (Some c.args.output.now) r.overwrite
    (g.G.Image.seen c.args.image.now).content _ _ (c.in_err-checked.ensures.gives told settled)))

pub returns-in_err-checked-clause-makes : goal.returns-in_err-checked-clause-makes
returns-in_err-checked-clause-makes g c =
    let r = c.args.request.now in
    let p = err_from_is_err_and c.from_residual.result c.from_residual.ensures.1 in
    rw (p.1, p.2) (makes_none g.S.Shelf (SaveRefuses r.force (Some c.args.output.now) r.overwrite)
    (Rose (g.G.Image.faults c.args.image.now).reads (g.G.Image.faults c.check_for_save.new.image).reads) c.args.shelf.now (Err _)
    c.in_err-checked.ensures.reads.cause (volume_saves r.force (Some c.args.output.now) r.overwrite _ c.in_err-checked.ensures.refusal))

pub returns-clause-ends : goal.returns-clause-ends
returns-clause-ends g c told shelf =
    let r = c.args.request.now in
    let checked = c.in_ok-checked.checked in
    let image = (g.G.Image.seen c.args.image.now).content in
    let files = (g.S.Shelf.seen c.args.shelf.now).files in
    let ends = told_still g.G.Image c.args.image.now c.check_for_save.new.image
    (λ content. IfFiles g.S.Shelf c.args.shelf.now (λ files.
    Ends (outcome_of files (saved_in named.Output r.save c.args.output.now r.overwrite (volume_in checked content) files)) (status_of c.save_checked.result)
    (g.S.Shelf.seen c.save_checked.new.shelf).files))
    c.in_ok-checked.ensures.reads.seen c.save_checked.ensures.ends in
    subst (λ work. Ends (outcome_of files work) (status_of c.save_checked.result) (g.S.Shelf.seen c.save_checked.new.shelf).files)
    (sym (image_saved r.save r.force (Some c.args.output.now) r.overwrite image files (volume_in checked image) (c.in_ok-checked.ensures.gives told)))
    (ends told shelf)

pub returns-clause-left : goal.returns-clause-left
returns-clause-left g c told shelf =
    let r = c.args.request.now in
    let checked = c.in_ok-checked.checked in
    let image = (g.G.Image.seen c.args.image.now).content in
    let left = told_still g.G.Image c.args.image.now c.check_for_save.new.image
    (λ content. IfFiles g.S.Shelf c.args.shelf.now (λ files.
    LeavesOutput (Some c.args.output.now) r.overwrite (IsPartSaved r.save (volume_in checked content)) files (g.S.Shelf.seen c.save_checked.new.shelf).files))
    c.in_ok-checked.ensures.reads.seen c.save_checked.ensures.left in
    leaves_map (Some c.args.output.now) r.overwrite (IsPartSaved r.save (volume_in checked image)) (IsSavedFrom r.save r.force image) _ _
    (λ bytes part. record { volume = volume_in checked image; saved = c.in_ok-checked.ensures.gives told; part = part }) (left told shelf)

pub returns-clause-makes : goal.returns-clause-makes
returns-clause-makes g c =
    let r = c.args.request.now in
    makes_map g.S.Shelf (OutputRefuses named.Output r.overwrite) (SaveRefuses r.force (Some c.args.output.now) r.overwrite) _
    (Rose (g.G.Image.faults c.args.image.now).reads (g.G.Image.faults c.save_checked.new.image).reads) c.args.shelf.now _ c.save_checked.result
    (output_saves r.force c.args.output.now r.overwrite)
    (rose_since _ _ _ c.in_ok-checked.ensures.reads.counts.reads c.save_checked.ensures.counts.reads) c.save_checked.ensures.makes
