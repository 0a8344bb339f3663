use Rattle.std.proofs.Common.{◌∙◌, ap, sym, ℕ, Some}
use Rattle.ntfs_base.specs.Bytes.{cluster_at}
use Rattle.ntfs_boot.specs.declared.geometry.Geometry.{Geometry}
use Rattle.std.specs.List.{list_all}
use Rattle.ntfs_check_streams.proofs.FileLemmas.{base-answer, own-answer, list-answer}
use Rattle.ntfs_check_streams.proofs.WalkLemmas.{given-as}
use Rattle.ntfs_check_streams.proofs.file.has_streams.Goals as goal
use Rattle.ntfs_check_records.specs.Reading.{records_of}
use Rattle.ntfs_check_streams.specs.Said.{are_own, are_streams, good_listed, shown_in}
use Rattle.ntfs_volume.proofs.GatherLemmas.{listing-told}
use Rattle.ntfs_volume.specs.Gathering.{file_lists}
use Rattle.ntfs_volume.specs.ListViews.{list_bytes_of}
use Rattle.ntfs_volume.specs.Listing.{listing_of_bytes}
use Rattle.ntfs_volume.specs.Views.{told_view}

pub returns-in-None-clause-found : goal.returns-in-None-clause-found
returns-in-None-clause-found g c told =
    let o = c.args.table.now in
    let f = cluster_at (g.G.Image.seen c.args.image.now).content o.geometry.cluster in
    c.are_own.ensures
    ∙ ap (λ (geometry : Geometry). list_all (are_own geometry.cluster (shown_in c.args.view.now)) (shown_in c.args.view.now)) c.geometry.ensures.kept
    ∙ own-answer o.geometry f c.args.number c.args.view.now (records_of o f) c.in-None.ensures.found
    ∙ base-answer c.args.view.now.head.base (are_streams o.geometry.cluster c.args.number c.args.view.now (file_lists o.geometry f c.args.view.now) (records_of o f))
    (sym c.base-reference.ensures ∙ c.if-reference-ne0.false)

pub returns-in-Some-clause-found : goal.returns-in-Some-clause-found
returns-in-Some-clause-found g c told =
    let o = c.args.table.now in
    let f = cluster_at (g.G.Image.seen c.args.image.now).content o.geometry.cluster in
    let found = listing-told o.geometry f c.args.view.now _ c.in-Some.ensures.found in
    given-as c.have_list.result _ _
    (ap (λ (n : ℕ). good_listed o.geometry.cluster c.args.number n (records_of o f) (listing_of_bytes (list_bytes_of o.geometry f found.0 c.args.view.now)) (Some (told_view c.in-Some.lead)) (shown_in c.args.view.now)) c.sequence-sequence.ensures
    ∙ list-answer o.geometry f c.args.number c.args.view.now (records_of o f) (told_view c.in-Some.lead) found.0 c.in-Some.ensures.found found.2
    ∙ base-answer c.args.view.now.head.base (are_streams o.geometry.cluster c.args.number c.args.view.now (file_lists o.geometry f c.args.view.now) (records_of o f))
    (sym c.base-reference.ensures ∙ c.if-reference-ne0.false))
    (c.have_list.ensures.found told found.0 found.1)
