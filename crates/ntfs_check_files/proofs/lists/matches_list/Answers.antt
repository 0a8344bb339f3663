use Rattle.std.proofs.Common.{◌≡◌, ◌∙◌, ap, sym, subst, ℕ, List, Some, Err, Result, Option}
use Rattle.std.specs.Option.{ok_or}
use Rattle.ntfs_base.specs.Bytes.{cluster_at}
use Rattle.ntfs_boot.specs.declared.geometry.Geometry.{Geometry}
use Rattle.ntfs_check_records.proofs.AnswerLemmas.{answers-by}
use Rattle.ntfs_check_files.proofs.ListLemmas.{unread-matches}
use Rattle.ntfs_check_files.proofs.lists.matches_list.Goals as goal
use Rattle.ntfs_check_records.specs.Reading.{records_of}
use Rattle.ntfs_check_files.specs.Members.{matches_listing}
use Rattle.ntfs_record.specs.Views.{Shown, shown_body}
use Rattle.ntfs_record.specs.declared.attribute.Body.{Body}
use Rattle.ntfs_rules.proofs.ListLemmas.{uncut}
use Rattle.ntfs_volume.proofs.GatherLemmas.{list-none, list-value}
use Rattle.ntfs_volume.specs.ListViews.{list_bytes_of}
use Rattle.ntfs_volume.specs.Listing.{listing_of_bytes}
use Rattle.ntfs_volume.specs.MftMap.{no_map}
use Rattle.ntfs_volume.specs.declared.fault.VolumeFault.{VolumeFault}

pub returns-in-Resident-clause-answers : goal.returns-in-Resident-clause-answers
returns-in-Resident-clause-answers g c told a same =
    let o = c.args.table.now in
    let f = cluster_at (g.G.Image.seen c.args.image.now).content o.geometry.cluster in
    let resident = ap (λ (s : Shown). s.body.is_resident) same ∙ ap (λ (b : Body). (shown_body b).is_resident) c.in-Resident.is in
    let value = ap (λ (s : Shown). s.body.value) same ∙ ap (λ (b : Body). (shown_body b).value) c.in-Resident.is in
    answers-by _ _ c.matches_bytes.result
    (ap (λ (bytes : Option (List ℕ)). matches_listing (records_of o f) c.args.number c.args.view.now c.args.numbers.now (listing_of_bytes bytes))
    (sym (list-value o.geometry f a c.args.view.now resident ∙ ap Some value)))
    (c.matches_bytes.ensures.answers told)

pub returns-in-None-clause-answers : goal.returns-in-None-clause-answers
returns-in-None-clause-answers g c told a same =
    let o = c.args.table.now in
    let content = (g.G.Image.seen c.args.image.now).content in
    let f = cluster_at content o.geometry.cluster in
    let read = subst (λ (h : Geometry). ◌≡◌ {A = Result (List ℕ) VolumeFault} (ok_or (list_bytes_of h (cluster_at content h.cluster) a c.args.view.now) (no_map 0)) (Err c.in-Err.fault)) c.geometry.ensures.kept
    (c.in-Err.ensures.gives told a same (uncut c.in-Err.fault (sym c.cut_of.ensures ∙ c.in-None.is))) in
    unread-matches (records_of o f) c.args.number c.args.view.now c.args.numbers.now (list_bytes_of o.geometry f a c.args.view.now) (list-none (list_bytes_of o.geometry f a c.args.view.now) c.in-Err.fault read).0
