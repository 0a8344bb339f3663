use Rattle.std.proofs.Common.{sym, ap, ◌∙◌}
use Rattle.ntfs_base.specs.Bytes.{cluster_at}
use Rattle.ntfs_volume.specs.Fault.{volume_origin}
use Rattle.ntfs_volume.specs.Gathering.{file_lists, finished_of, listed_parts, no_parts, volume_slots}
use Rattle.ntfs_volume.specs.ListViews.{list_bytes_of}
use Rattle.ntfs_volume.specs.Listing.{RecordListing, listing_of_bytes}
use Rattle.ntfs_volume.proofs.AnswerLemmas.{gives_by}
use Rattle.ntfs_volume.proofs.GatherLemmas.{is-there, listing-told, stream-listed, stream-own}
use Rattle.ntfs_volume.proofs.gather.gather_file.Goals as goal

pub returns-in-None-clause-gives : goal.returns-in-None-clause-gives
returns-in-None-clause-gives g c told =
    let k = c.args.goal.now in
    let o = c.args.table.now in
    let image = g.G.Image.seen c.args.image.now in
    let f = cluster_at image.content o.geometry.cluster in
    let none = listing-told o.geometry f c.args.base.now _ c.in-None.ensures.found in
    gives_by volume_origin _ _ _ c.gather_own.result
    (stream-own o.geometry.cluster o.geometry.clusters k.number k.kind k.name.now (file_lists o.geometry f c.args.base.now) c.args.base.now (volume_slots o image.content) (ap (λ (l : RecordListing). l.is_there) none))
    c.gather_own.ensures.gives

pub returns-in-Some-clause-gives : goal.returns-in-Some-clause-gives
returns-in-Some-clause-gives g c told =
    let k = c.args.goal.now in
    let o = c.args.table.now in
    let image = g.G.Image.seen c.args.image.now in
    let f = cluster_at image.content o.geometry.cluster in
    let found = listing-told o.geometry f c.args.base.now _ c.in-Some.ensures.found in
    gives_by volume_origin _ _ _ c.gather_listed.result
    (stream-listed o.geometry.cluster o.geometry.clusters k.number k.kind k.name.now (file_lists o.geometry f c.args.base.now) c.args.base.now (volume_slots o image.content) (ap (λ (l : RecordListing). l.is_there) found.2 ∙ is-there _)
    ∙ ap (λ (l : RecordListing). finished_of o.geometry.cluster k.number (listed_parts k.number c.args.base.now.head.sequence k.kind k.name.now (volume_slots o image.content) l no_parts)) found.2
    ∙ ap (λ n. finished_of o.geometry.cluster k.number (listed_parts k.number n k.kind k.name.now (volume_slots o image.content) (listing_of_bytes (list_bytes_of o.geometry f found.0 c.args.base.now)) no_parts)) (sym c.requires.sequence))
    (c.gather_listed.ensures.gives told found.0 found.1)
