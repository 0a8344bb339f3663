use Rattle.std.proofs.Common.{sym, ap, ◌∙◌, map}
use Rattle.ntfs_boot.specs.declared.geometry.Geometry.{Geometry}
use Rattle.ntfs_record.specs.Views.{placed_of, shown_placed}
use Rattle.ntfs_volume.specs.Fault.{volume_origin}
use Rattle.ntfs_volume.specs.Gathering.{finished, no_parts, shown_parts_of}
use Rattle.ntfs_volume.proofs.AnswerLemmas.{gives_by}
use Rattle.ntfs_volume.proofs.gather.gather_own.Goals as goal

pub returns-in-Ok-clause-gives : goal.returns-in-Ok-clause-gives
returns-in-Ok-clause-gives c =
    let k = c.args.goal.now in
    let ps = map shown_placed (placed_of c.args.base.now) in
    let kept = c.geometry-geometry.ensures.kept in
    gives_by volume_origin _ _ _ c.finish.result
    (ap (λ (h : Geometry). finished h.cluster k.number (shown_parts_of h.clusters k.number k.kind k.name.now ps no_parts)) (sym kept)
    ∙ ap (λ p. finished c.geometry-geometry.result.now.cluster k.number (shown_parts_of c.geometry-geometry.result.now.clusters k.number k.kind k.name.now ps p)) (sym c.new-parts.ensures.shown)
    ∙ ap (finished c.geometry-geometry.result.now.cluster k.number) (sym c.in-Ok.ensures.shown))
    c.finish.ensures.gives

pub take_own-requires-clause-parts : goal.take_own-requires-clause-parts
take_own-requires-clause-parts c = c.new-parts.ensures.parts c.geometry-geometry.result.now.clusters
