use Rattle.std.proofs.Common.{IsTrue, ap, ◌∙◌}
use Rattle.std.proofs.lemmas.Result.{IfErr-weaker, err_from_is_err_and}
use Rattle.ntfs_base.specs.Causes.{Rose}
use Rattle.ntfs_clone.specs.Taking.{to_come}
use Rattle.ntfs_run.specs.Filling.{FileRefuses}
use Rattle.ntfs_run.proofs.MakeLemmas.{filled_is_attached, released_files}
use Rattle.ntfs_run.proofs.OutputLemmas.{ends_refused, made_released, others_kept}
use Rattle.ntfs_run.proofs.RestoreLemmas.{clone_in_file, restore_ends, restore_leaves, restore_unmade}
use Rattle.ntfs_run.proofs.clone.restore_behind.Goals as goal

pub returns-in_err-file-clause-ends : goal.returns-in_err-file-clause-ends
returns-in_err-file-clause-ends g c shelf told =
    let o = c.args.output.now in
    let p = err_from_is_err_and c.from_residual.result c.from_residual.ensures.1 in
    rw (p.1, p.2) (ends_refused _ _ _ _ (ap (λ shelf. shelf.files) c.in_err-file.ensures.refused)
    (λ settled. restore_unmade o.file o.name.now o.overwrite c.args.header.now (to_come (g.I.Source.seen c.args.source.now)) _ _ (c.in_err-file.ensures.gives shelf settled)))

pub release-requires : goal.release-requires
release-requires g c = filled_is_attached g.S.Shelf g.S.File.Image c.args.shelf.now _ c.in_ok-file.file _ c.args.output.now.name.now
    c.in_ok-file.ensures.file c.in_ok-file.ensures.created c.restore_to_file-result.ensures.restores.bears

pub returns-clause-ends : goal.returns-clause-ends
returns-clause-ends g c shelf told =
    let o = c.args.output.now in
    let inside : IsTrue (g.S.File.Image.seen c.in_ok-file.file).is_told = c.in_ok-file.ensures.file.told ∙ shelf in
    restore_ends o.file o.name.now o.overwrite c.args.header.now (to_come (g.I.Source.seen c.args.source.now)) _ _ _ c.restore_to_file-result.result
    (c.in_ok-file.ensures.gives shelf)
    (released_files g.S.Shelf g.S.File.Image c.args.shelf.now c.create_file.new.shelf c.release.new.self c.in_ok-file.file c.restore_to_file-result.new.file o.name.now
    c.in_ok-file.ensures.file c.in_ok-file.ensures.created c.restore_to_file-result.ensures.restores.bears c.release.ensures.released shelf)
    (c.restore_to_file-result.ensures.gives told) (c.restore_to_file-result.ensures.restored told inside) c.restore_to_file-result.ensures.refusal

pub returns-clause-left : goal.returns-clause-left
returns-clause-left g c shelf told =
    let o = c.args.output.now in
    let inside : IsTrue (g.S.File.Image.seen c.in_ok-file.file).is_told = c.in_ok-file.ensures.file.told ∙ shelf in
    restore_leaves o.file o.name.now o.overwrite c.args.header.now (to_come (g.I.Source.seen c.args.source.now)) _ _ _ c.restore_to_file-result.result
    (c.in_ok-file.ensures.gives shelf)
    (released_files g.S.Shelf g.S.File.Image c.args.shelf.now c.create_file.new.shelf c.release.new.self c.in_ok-file.file c.restore_to_file-result.new.file o.name.now
    c.in_ok-file.ensures.file c.in_ok-file.ensures.created c.restore_to_file-result.ensures.restores.bears c.release.ensures.released shelf)
    (c.restore_to_file-result.ensures.restored told inside)

pub returns-clause-others : goal.returns-clause-others
returns-clause-others g c shelf =
    others_kept _ _ c.args.output.now.name.now (g.S.File.Image.seen c.restore_to_file-result.new.file).content
    (released_files g.S.Shelf g.S.File.Image c.args.shelf.now c.create_file.new.shelf c.release.new.self c.in_ok-file.file c.restore_to_file-result.new.file c.args.output.now.name.now
    c.in_ok-file.ensures.file c.in_ok-file.ensures.created c.restore_to_file-result.ensures.restores.bears c.release.ensures.released shelf)

pub returns-clause-makes : goal.returns-clause-makes
returns-clause-makes g c =
    let o = c.args.output.now in
    made_released g.S.Shelf g.S.File.Image (FileRefuses o.file o.overwrite) (Rose (g.I.Source.faults c.args.source.now) (g.I.Source.faults c.restore_to_file-result.new.source))
    c.args.shelf.now c.create_file.new.shelf c.release.new.self c.in_ok-file.file c.restore_to_file-result.new.file o.name.now c.restore_to_file-result.result
    c.in_ok-file.ensures.file c.in_ok-file.ensures.created c.in_ok-file.ensures.counts c.restore_to_file-result.ensures.restores.bears
    c.restore_to_file-result.ensures.restores.cause
    (IfErr-weaker c.restore_to_file-result.result _ _ (clone_in_file o.file o.overwrite) c.restore_to_file-result.ensures.refusal)
    c.release.ensures.released c.release.ensures.reads c.release.ensures.writes c.release.ensures.counts
