use Rattle.std.proofs.Common.{◌==◌, ◌∙◌, List, ap, length, sym, ℕ}
use Rattle.ntfs_base.specs.Bytes.{cluster_at}
use Rattle.ntfs_check_records.proofs.AnswerLemmas.{answers-by}
use Rattle.ntfs_check_files.proofs.ListLemmas.{base-matches, none-matches}
use Rattle.ntfs_check_files.proofs.lists.is_listed.Goals as goal
use Rattle.ntfs_check_records.specs.Reading.{records_of}
use Rattle.ntfs_check_files.specs.Extending.{extending}
use Rattle.ntfs_check_files.specs.Members.{matches_listing}
use Rattle.ntfs_volume.proofs.GatherLemmas.{listing-told}
use Rattle.ntfs_volume.specs.Gathering.{file_lists}
use Rattle.ntfs_volume.specs.Listing.{RecordListing, listing_of_bytes}
use Rattle.ntfs_volume.specs.ListViews.{list_bytes_of}

pub returns-in-None-clause-answers : goal.returns-in-None-clause-answers
returns-in-None-clause-answers g c told =
    let o = c.args.table.now in
    let f = cluster_at (g.G.Image.seen c.args.image.now).content o.geometry.cluster in
    let none = listing-told o.geometry f c.args.view.now _ c.in-None.ensures.found in
    c.is_empty.ensures
    ∙ ap (λ (ns : List ℕ). length ns == 0) c.of-numbers.ensures
    ∙ sym (none-matches (records_of o f) c.args.number c.args.view.now (extending c.args.extensions.now c.args.number) (file_lists o.geometry f c.args.view.now) none)
    ∙ base-matches c.args.view.now.head.base (matches_listing (records_of o f) c.args.number c.args.view.now (extending c.args.extensions.now c.args.number) (file_lists o.geometry f c.args.view.now))
    (sym c.base-base.ensures ∙ c.if-base-ne0.false)

pub returns-in-Some-clause-answers : goal.returns-in-Some-clause-answers
returns-in-Some-clause-answers g c told =
    let o = c.args.table.now in
    let f = cluster_at (g.G.Image.seen c.args.image.now).content o.geometry.cluster in
    let found = listing-told o.geometry f c.args.view.now _ c.in-Some.ensures.found in
    answers-by _ _ c.matches_list.result
    (ap (λ (ns : List ℕ). matches_listing (records_of o f) c.args.number c.args.view.now ns (listing_of_bytes (list_bytes_of o.geometry f found.0 c.args.view.now))) c.of-numbers.ensures
    ∙ ap (λ (l : RecordListing). matches_listing (records_of o f) c.args.number c.args.view.now (extending c.args.extensions.now c.args.number) l) (sym found.2)
    ∙ base-matches c.args.view.now.head.base (matches_listing (records_of o f) c.args.number c.args.view.now (extending c.args.extensions.now c.args.number) (file_lists o.geometry f c.args.view.now))
    (sym c.base-base.ensures ∙ c.if-base-ne0.false))
    (c.matches_list.ensures.answers told found.0 found.1)
