use Rattle.std.proofs.Common.{sym, ap, ◌∙◌}
use Rattle.ntfs_base.specs.Bytes.{cluster_at}
use Rattle.ntfs_boot.specs.declared.geometry.Geometry.{Geometry}
use Rattle.ntfs_volume.specs.Fault.{volume_origin}
use Rattle.ntfs_volume.specs.Gathering.{finished, finished_of, listed_parts, shown_parts, volume_slots}
use Rattle.ntfs_volume.specs.ListViews.{list_bytes_of}
use Rattle.ntfs_volume.specs.Listing.{listing_of_bytes}
use Rattle.ntfs_volume.proofs.AnswerLemmas.{gives_by}
use Rattle.ntfs_volume.proofs.gather.gather_listed.Goals as goal

pub returns-in-Err-clause-gives : goal.returns-in-Err-clause-gives
returns-in-Err-clause-gives g c told a same settled =
    let k = c.args.goal.now in
    let o = c.args.table.now in
    let image = g.G.Image.seen c.args.image.now in
    ap (λ p. finished_of o.geometry.cluster k.number (listed_parts k.number k.sequence k.kind k.name.now (volume_slots o image.content)
    (listing_of_bytes (list_bytes_of o.geometry (cluster_at image.content o.geometry.cluster) a c.args.base.now)) p)) (sym c.new-parts.ensures.shown)
    ∙ ap (finished_of o.geometry.cluster k.number) (c.in-Err.ensures.gives told a same settled)

pub returns-in-Ok-clause-gives : goal.returns-in-Ok-clause-gives
returns-in-Ok-clause-gives g c told a same =
    let k = c.args.goal.now in
    let o = c.args.table.now in
    let image = g.G.Image.seen c.args.image.now in
    gives_by volume_origin _ _ _ c.finish.result
    (ap (λ p. finished_of o.geometry.cluster k.number (listed_parts k.number k.sequence k.kind k.name.now (volume_slots o image.content)
    (listing_of_bytes (list_bytes_of o.geometry (cluster_at image.content o.geometry.cluster) a c.args.base.now)) p)) (sym c.new-parts.ensures.shown)
    ∙ ap (finished_of o.geometry.cluster k.number) (c.in-Ok.ensures.gives told a same)
    ∙ ap (λ (h : Geometry). finished h.cluster k.number (shown_parts c.take_list.new.parts)) (sym c.geometry.ensures.kept))
    c.finish.ensures.gives

pub take_list-requires-clause-parts : goal.take_list-requires-clause-parts
take_list-requires-clause-parts g c = c.new-parts.ensures.parts c.args.table.now.geometry.clusters
