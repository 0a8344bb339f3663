use Rattle.std.proofs.Common.{◌≡◌, sym, ap, subst, ◌∙◌, ℕ, List, Some, Err, Result, Ok}
use Rattle.std.specs.Option.{ok_or}
use Rattle.std.specs.Prelude.{IsTrue}
use Rattle.ntfs_base.specs.Bytes.{cluster_at}
use Rattle.ntfs_base.specs.Frames.{IsSettled, Origin}
use Rattle.ntfs_base.specs.Image.{ImageState}
use Rattle.ntfs_boot.specs.declared.geometry.Geometry.{Geometry}
use Rattle.ntfs_record.specs.Views.{Shown, shown_body}
use Rattle.ntfs_record.specs.declared.attribute.Body.{Body}
use Rattle.ntfs_volume.specs.Fault.{volume_origin}
use Rattle.ntfs_volume.specs.Gathering.{list_fault, listed_parts, shown_parts, volume_slots}
use Rattle.ntfs_volume.specs.ListViews.{list_bytes_of}
use Rattle.ntfs_volume.specs.Listing.{listing_of_bytes}
use Rattle.ntfs_volume.specs.MftMap.{no_map}
use Rattle.ntfs_volume.specs.declared.fault.VolumeFault.{VolumeFault}
use Rattle.ntfs_volume.proofs.AnswerLemmas.{gives_by}
use Rattle.ntfs_volume.proofs.GatherItems.{listed-none}
use Rattle.ntfs_volume.proofs.GatherLemmas.{list-none, list-origin, list-some, list-value}
use Rattle.ntfs_volume.proofs.gather.take_list.Goals as goal

pub returns-in-Resident-clause-gives : goal.returns-in-Resident-clause-gives
returns-in-Resident-clause-gives g c told a same =
    let k = c.args.goal.now in
    let o = c.args.table.now in
    let image = g.G.Image.seen c.args.image.now in
    let resident = ap (λ (s : Shown). s.body.is_resident) same ∙ ap (λ (b : Body). (shown_body b).is_resident) c.in-Resident.is in
    let value = ap (λ (s : Shown). s.body.value) same ∙ ap (λ (b : Body). (shown_body b).value) c.in-Resident.is in
    gives_by volume_origin _ _ _ c.take_entries.result
    (ap (λ bytes. listed_parts k.number k.sequence k.kind k.name.now (volume_slots o image.content) (listing_of_bytes bytes) (shown_parts c.args.parts.now))
    (list-value o.geometry (cluster_at image.content o.geometry.cluster) a c.args.base.now resident ∙ ap Some value))
    (c.take_entries.ensures.gives told)

pub returns-in-Err-clause-gives : goal.returns-in-Err-clause-gives
returns-in-Err-clause-gives g c told a same settled =
    let k = c.args.goal.now in
    let o = c.args.table.now in
    let image = g.G.Image.seen c.args.image.now in
    let slots = volume_slots o image.content in
    let cut = subst (λ (origin : Origin). IsSettled origin) (ap volume_origin c.list_fault.ensures ∙ list-origin k.number c.in-Err.fault) settled in
    let read = subst (λ (h : Geometry). ◌≡◌ {A = Result (List ℕ) VolumeFault} (ok_or (list_bytes_of h (cluster_at image.content h.cluster) a c.args.base.now) (no_map 0)) (Err c.in-Err.fault)) c.geometry.ensures.kept (c.in-Err.ensures.gives told a same cut) in
    let none = list-none (list_bytes_of o.geometry (cluster_at image.content o.geometry.cluster) a c.args.base.now) c.in-Err.fault read in
    ap (λ bytes. listed_parts k.number k.sequence k.kind k.name.now slots (listing_of_bytes bytes) (shown_parts c.args.parts.now)) none.0
    ∙ listed-none k.number k.sequence k.kind k.name.now slots (shown_parts c.args.parts.now)
    ∙ ap Err (sym (c.list_fault.ensures ∙ ap (list_fault k.number) none.1))

pub returns-in-Ok-clause-gives : goal.returns-in-Ok-clause-gives
returns-in-Ok-clause-gives g c told a same =
    let k = c.args.goal.now in
    let o = c.args.table.now in
    let image = g.G.Image.seen c.args.image.now in
    let seen = c.in-Ok.ensures.reads.seen in
    let read = subst (λ (h : Geometry). ◌≡◌ {A = Result (List ℕ) VolumeFault} (ok_or (list_bytes_of h (cluster_at image.content h.cluster) a c.args.base.now) (no_map 0)) (Ok c.in-Ok.bytes.items)) c.geometry.ensures.kept (c.in-Ok.ensures.gives told a same) in
    let bytes = list-some (list_bytes_of o.geometry (cluster_at image.content o.geometry.cluster) a c.args.base.now) c.in-Ok.bytes.items read in
    gives_by volume_origin _ _ _ c.take_entries-in-Ok.result
    (ap (λ bytes. listed_parts k.number k.sequence k.kind k.name.now (volume_slots o image.content) (listing_of_bytes bytes) (shown_parts c.args.parts.now)) (bytes ∙ ap Some (sym c.deref.ensures.value))
    ∙ ap (λ (s : ImageState). listed_parts k.number k.sequence k.kind k.name.now (volume_slots o s.content) (listing_of_bytes (Some c.deref.result.now)) (shown_parts c.args.parts.now)) (sym seen))
    (c.take_entries-in-Ok.ensures.gives (subst (λ (s : ImageState). IsTrue s.is_told) (sym seen) told))
