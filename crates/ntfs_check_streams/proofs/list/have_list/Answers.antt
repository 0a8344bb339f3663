use Rattle.std.proofs.Common.{◌≡◌, ◌∙◌, ap, sym, subst, ℕ, List, Option, Some, Err, Ok, Result}
use Rattle.std.specs.Option.{ok_or}
use Rattle.std.specs.Prelude.{IfOk}
use Rattle.ntfs_base.proofs.FramesLemmas.{told_still}
use Rattle.ntfs_base.specs.Bytes.{cluster_at}
use Rattle.ntfs_boot.specs.declared.geometry.Geometry.{Geometry}
use Rattle.ntfs_check_streams.proofs.WalkLemmas.{given-as}
use Rattle.ntfs_check_streams.proofs.list.have_list.Goals as goal
use Rattle.ntfs_check_records.specs.Reading.{records_of}
use Rattle.ntfs_check_streams.specs.Said.{good_listed, shown_in}
use Rattle.ntfs_record.specs.Views.{Shown, shown_body}
use Rattle.ntfs_record.specs.declared.attribute.Body.{Body}
use Rattle.ntfs_rules.proofs.ListLemmas.{uncut}
use Rattle.ntfs_volume.proofs.GatherLemmas.{list-none, list-some, list-value}
use Rattle.ntfs_volume.specs.ListViews.{list_bytes_of}
use Rattle.ntfs_volume.specs.Listing.{listing_of_bytes}
use Rattle.ntfs_volume.specs.MftMap.{no_map}
use Rattle.ntfs_volume.specs.Views.{told_view}
use Rattle.ntfs_volume.specs.declared.fault.VolumeFault.{VolumeFault}

pub returns-in-Resident-clause-found : goal.returns-in-Resident-clause-found
returns-in-Resident-clause-found g c told a same =
    let o = c.args.table.now in
    let content = (g.G.Image.seen c.args.image.now).content in
    let resident = ap (λ (s : Shown). s.body.is_resident) same ∙ ap (λ (b : Body). (shown_body b).is_resident) c.in-Resident.is in
    let value = ap (λ (s : Shown). s.body.value) same ∙ ap (λ (b : Body). (shown_body b).value) c.in-Resident.is in
    given-as c.all_listed.result _ _
    (ap (λ (bytes : Option (List ℕ)). good_listed o.geometry.cluster c.args.base.number c.args.base.sequence (records_of o (cluster_at content o.geometry.cluster)) (listing_of_bytes bytes) (Some (told_view c.args.lead.now)) (shown_in c.args.view.now))
    (sym (list-value o.geometry (cluster_at content o.geometry.cluster) a c.args.view.now resident ∙ ap Some value)))
    (c.all_listed.ensures.found told)

pub returns-in-None-clause-found : goal.returns-in-None-clause-found
returns-in-None-clause-found g c told a same =
    let o = c.args.table.now in
    let content = (g.G.Image.seen c.args.image.now).content in
    let cut = uncut c.in-Err.fault (sym c.cut_of.ensures ∙ c.in-None.is) in
    let read = subst (λ (h : Geometry). ◌≡◌ {A = Result (List ℕ) VolumeFault} (ok_or (list_bytes_of h (cluster_at content h.cluster) a c.args.view.now) (no_map 0)) (Err c.in-Err.fault)) c.geometry.ensures.kept (c.in-Err.ensures.gives told a same cut) in
    let none = list-none (list_bytes_of o.geometry (cluster_at content o.geometry.cluster) a c.args.view.now) c.in-Err.fault read in
    ap (λ (bytes : Option (List ℕ)). good_listed o.geometry.cluster c.args.base.number c.args.base.sequence (records_of o (cluster_at content o.geometry.cluster)) (listing_of_bytes bytes) (Some (told_view c.args.lead.now)) (shown_in c.args.view.now)) (sym none.0)

pub returns-in-Ok-clause-found : goal.returns-in-Ok-clause-found
returns-in-Ok-clause-found g c told a same =
    let o = c.args.table.now in
    let content = (g.G.Image.seen c.args.image.now).content in
    let read = subst (λ (h : Geometry). ◌≡◌ {A = Result (List ℕ) VolumeFault} (ok_or (list_bytes_of h (cluster_at content h.cluster) a c.args.view.now) (no_map 0)) (Ok c.in-Ok.bytes.items)) c.geometry.ensures.kept (c.in-Ok.ensures.gives told a same) in
    let bytes = list-some (list_bytes_of o.geometry (cluster_at content o.geometry.cluster) a c.args.view.now) c.in-Ok.bytes.items read in
    given-as c.all_listed-in-Ok.result _ _
    (ap (λ (bytes : Option (List ℕ)). good_listed o.geometry.cluster c.args.base.number c.args.base.sequence (records_of o (cluster_at content o.geometry.cluster)) (listing_of_bytes bytes) (Some (told_view c.args.lead.now)) (shown_in c.args.view.now))
    (sym (bytes ∙ ap Some (sym c.deref.ensures.value))))
    (told_still g.G.Image c.args.image.now c.read_list.new.image
    (λ content. IfOk c.all_listed-in-Ok.result (λ is. is ≡ good_listed o.geometry.cluster c.args.base.number c.args.base.sequence (records_of o (cluster_at content o.geometry.cluster)) (listing_of_bytes (Some c.deref.result.now)) (Some (told_view c.args.lead.now)) (shown_in c.args.view.now)))
    c.in-Ok.ensures.reads.seen c.all_listed-in-Ok.ensures.found told)
