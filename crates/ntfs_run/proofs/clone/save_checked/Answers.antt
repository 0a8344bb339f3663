use Rattle.std.proofs.Common.{IsTrue, ap, inl, ◌∙◌}
use Rattle.std.proofs.lemmas.Result.{IfErr-weaker, err_from_is_err_and}
use Rattle.ntfs_base.specs.Causes.{Rose}
use Rattle.ntfs_run.specs.Clone.{volume_in}
use Rattle.ntfs_run.specs.Filling.{OutputRefuses}
use Rattle.ntfs_run.specs.Outcome.{status_origin}
use Rattle.ntfs_run.proofs.MakeLemmas.{filled_is_attached, released_files}
use Rattle.ntfs_run.proofs.OutputLemmas.{cut_output, ends_refused, made_released, others_kept, save_ends, save_leaves, save_unmade}
use Rattle.ntfs_run.proofs.ToolLemmas.{because_map}
use Rattle.ntfs_run.proofs.clone.save_checked.Goals as goal

pub returns-in_err-empty-clause-ends : goal.returns-in_err-empty-clause-ends
returns-in_err-empty-clause-ends g c told shelf =
    let o = c.args.output.now in
    let p = err_from_is_err_and c.from_residual.result c.from_residual.ensures.1 in
    rw (p.1, p.2) (ends_refused _ _ _ _ (ap (λ shelf. shelf.files) c.in_err-empty.ensures.refused)
    (λ settled. save_unmade o.file c.args.save o.name.now o.overwrite _ _ _ (c.in_err-empty.ensures.gives shelf settled)))

pub release-requires : goal.release-requires
release-requires g c = filled_is_attached g.S.Shelf g.S.File.Image c.args.shelf.now _ c.in_ok-empty.empty _ c.args.output.now.name.now
    c.in_ok-empty.ensures.file c.in_ok-empty.ensures.created c.fill-file.ensures.fills.bears

pub returns-clause-ends : goal.returns-clause-ends
returns-clause-ends g c told shelf =
    let o = c.args.output.now in
    let inside : IsTrue (g.S.File.Image.seen c.in_ok-empty.empty).is_told = c.in_ok-empty.ensures.file.told ∙ shelf in
    save_ends o.file c.args.save o.name.now o.overwrite (volume_in c.args.checked.now (g.G.Image.seen c.args.image.now).content) _ _ _ c.fill-file.result.1
    (c.in_ok-empty.ensures.gives shelf)
    (released_files g.S.Shelf g.S.File.Image c.args.shelf.now c.create_file.new.shelf c.release.new.self c.in_ok-empty.empty c.fill-file.result.0 o.name.now
    c.in_ok-empty.ensures.file c.in_ok-empty.ensures.created c.fill-file.ensures.fills.bears c.release.ensures.released shelf)
    (c.fill-file.ensures.filled told inside) c.fill-file.ensures.refusal

pub returns-clause-left : goal.returns-clause-left
returns-clause-left g c told shelf =
    let o = c.args.output.now in
    let inside : IsTrue (g.S.File.Image.seen c.in_ok-empty.empty).is_told = c.in_ok-empty.ensures.file.told ∙ shelf in
    save_leaves o.file c.args.save o.name.now o.overwrite (volume_in c.args.checked.now (g.G.Image.seen c.args.image.now).content) _ _ _ c.fill-file.result.1
    (c.in_ok-empty.ensures.gives shelf)
    (released_files g.S.Shelf g.S.File.Image c.args.shelf.now c.create_file.new.shelf c.release.new.self c.in_ok-empty.empty c.fill-file.result.0 o.name.now
    c.in_ok-empty.ensures.file c.in_ok-empty.ensures.created c.fill-file.ensures.fills.bears c.release.ensures.released shelf)
    (c.fill-file.ensures.filled told inside)

pub returns-clause-others : goal.returns-clause-others
returns-clause-others g c shelf =
    others_kept _ _ c.args.output.now.name.now (g.S.File.Image.seen c.fill-file.result.0).content
    (released_files g.S.Shelf g.S.File.Image c.args.shelf.now c.create_file.new.shelf c.release.new.self c.in_ok-empty.empty c.fill-file.result.0 c.args.output.now.name.now
    c.in_ok-empty.ensures.file c.in_ok-empty.ensures.created c.fill-file.ensures.fills.bears c.release.ensures.released shelf)

pub returns-clause-makes : goal.returns-clause-makes
returns-clause-makes g c =
    let o = c.args.output.now in
    made_released g.S.Shelf g.S.File.Image (OutputRefuses o.file o.overwrite) (Rose (g.G.Image.faults c.args.image.now).reads (g.G.Image.faults c.fill-file.new.image).reads)
    c.args.shelf.now c.create_file.new.shelf c.release.new.self c.in_ok-empty.empty c.fill-file.result.0 o.name.now c.fill-file.result.1
    c.in_ok-empty.ensures.file c.in_ok-empty.ensures.created c.in_ok-empty.ensures.counts c.fill-file.ensures.fills.bears
    (IfErr-weaker c.fill-file.result.1 _ _ (λ fault. because_map (status_origin fault) (λ rose. inl rose) (λ rose. rose) (λ want. want)) c.fill-file.ensures.fills.cause)
    (IfErr-weaker c.fill-file.result.1 _ _ (cut_output o.file o.overwrite) c.fill-file.ensures.refusal)
    c.release.ensures.released c.release.ensures.reads c.release.ensures.writes c.release.ensures.counts
