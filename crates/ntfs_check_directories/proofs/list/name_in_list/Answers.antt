use Rattle.std.proofs.Common.{◌≡◌, ◌∙◌, ap, sym, subst, ℕ, List, Option, Some, Err, Ok, Result, [], false}
use Rattle.std.specs.Option.{ok_or}
use Rattle.std.specs.Prelude.{IfOk}
use Rattle.ntfs_base.proofs.FramesLemmas.{told_still}
use Rattle.ntfs_base.specs.Bytes.{cluster_at}
use Rattle.ntfs_boot.specs.declared.geometry.Geometry.{Geometry}
use Rattle.ntfs_check_directories.proofs.LeadLemmas.{given-as}
use Rattle.ntfs_check_directories.proofs.NameLemmas.{items-unread}
use Rattle.ntfs_check_directories.proofs.list.name_in_list.Goals as goal
use Rattle.ntfs_check_directories.specs.Names.{have_sought, records_in}
use Rattle.ntfs_record.specs.Views.{Shown, shown_body}
use Rattle.ntfs_record.specs.declared.attribute.Body.{Body}
use Rattle.ntfs_rules.proofs.ListLemmas.{uncut}
use Rattle.ntfs_rules.specs.Directories.{file_name_kind}
use Rattle.ntfs_volume.proofs.GatherLemmas.{list-none, list-some, list-value}
use Rattle.ntfs_volume.specs.Gather.{listed_extents}
use Rattle.ntfs_volume.specs.ListViews.{list_bytes_of}
use Rattle.ntfs_volume.specs.Listing.{listing_of_bytes}
use Rattle.ntfs_volume.specs.MftMap.{no_map}
use Rattle.ntfs_volume.specs.declared.fault.VolumeFault.{VolumeFault}

pub returns-in-Resident-clause-found : goal.returns-in-Resident-clause-found
returns-in-Resident-clause-found g c told a same =
    let o = c.args.table.now in
    let content = (g.G.Image.seen c.args.image.now).content in
    let resident = ap (λ (s : Shown). s.body.is_resident) same ∙ ap (λ (b : Body). (shown_body b).is_resident) c.in-Resident.is in
    let value = ap (λ (s : Shown). s.body.value) same ∙ ap (λ (b : Body). (shown_body b).value) c.in-Resident.is in
    given-as c.listed_name.result _ _
    (ap (λ (bytes : Option (List ℕ)). have_sought false c.args.sought.now (listed_extents c.args.base.number file_name_kind [] (listing_of_bytes bytes) c.args.base.sequence (records_in o content)))
    (sym (list-value o.geometry (cluster_at content o.geometry.cluster) a c.args.view.now resident ∙ ap Some value)))
    (c.listed_name.ensures.found told)

pub returns-in-None-clause-found : goal.returns-in-None-clause-found
returns-in-None-clause-found g c told a same =
    let o = c.args.table.now in
    let content = (g.G.Image.seen c.args.image.now).content in
    let cut = uncut c.in-Err.fault (sym c.cut_of.ensures ∙ c.in-None.is) in
    let read = subst (λ (h : Geometry). ◌≡◌ {A = Result (List ℕ) VolumeFault} (ok_or (list_bytes_of h (cluster_at content h.cluster) a c.args.view.now) (no_map 0)) (Err c.in-Err.fault)) c.geometry.ensures.kept (c.in-Err.ensures.gives told a same cut) in
    let none = list-none (list_bytes_of o.geometry (cluster_at content o.geometry.cluster) a c.args.view.now) c.in-Err.fault read in
    items-unread c.args.sought.now c.args.base.number c.args.base.sequence (records_in o content)
    ∙ ap (λ (bytes : Option (List ℕ)). have_sought false c.args.sought.now (listed_extents c.args.base.number file_name_kind [] (listing_of_bytes bytes) c.args.base.sequence (records_in o content))) (sym none.0)

pub returns-in-Ok-clause-found : goal.returns-in-Ok-clause-found
returns-in-Ok-clause-found g c told a same =
    let o = c.args.table.now in
    let content = (g.G.Image.seen c.args.image.now).content in
    let read = subst (λ (h : Geometry). ◌≡◌ {A = Result (List ℕ) VolumeFault} (ok_or (list_bytes_of h (cluster_at content h.cluster) a c.args.view.now) (no_map 0)) (Ok c.in-Ok.bytes.items)) c.geometry.ensures.kept (c.in-Ok.ensures.gives told a same) in
    let bytes = list-some (list_bytes_of o.geometry (cluster_at content o.geometry.cluster) a c.args.view.now) c.in-Ok.bytes.items read in
    given-as c.listed_name-in-Ok.result _ _
    (ap (λ (bytes : Option (List ℕ)). have_sought false c.args.sought.now (listed_extents c.args.base.number file_name_kind [] (listing_of_bytes bytes) c.args.base.sequence (records_in o content)))
    (sym (bytes ∙ ap Some (sym c.deref.ensures.value))))
    (told_still g.G.Image c.args.image.now c.read_list.new.image
    (λ content. IfOk c.listed_name-in-Ok.result (λ is. is ≡ have_sought false c.args.sought.now (listed_extents c.args.base.number file_name_kind [] (listing_of_bytes (Some c.deref.result.now)) c.args.base.sequence (records_in o content))))
    c.in-Ok.ensures.reads.seen c.listed_name-in-Ok.ensures.found told)
