use Rattle.std.proofs.Common.{◌∙◌, ap, sym, ℕ, [], false}
use Rattle.ntfs_base.specs.Bytes.{cluster_at}
use Rattle.ntfs_check_directories.proofs.LeadLemmas.{given-as}
use Rattle.ntfs_check_directories.proofs.NameLemmas.{names-listed, names-own}
use Rattle.ntfs_check_directories.proofs.file.file_has_name.Goals as goal
use Rattle.ntfs_check_directories.specs.Names.{have_sought, records_in}
use Rattle.ntfs_rules.specs.Directories.{file_name_kind}
use Rattle.ntfs_volume.proofs.GatherLemmas.{is-there, listing-told}
use Rattle.ntfs_volume.specs.Gather.{listed_extents}
use Rattle.ntfs_volume.specs.Gathering.{file_lists}
use Rattle.ntfs_volume.specs.ListViews.{list_bytes_of}
use Rattle.ntfs_volume.specs.Listing.{RecordListing, listing_of_bytes}

pub returns-in-None-clause-found : goal.returns-in-None-clause-found
returns-in-None-clause-found g c told =
    let o = c.args.table.now in
    let content = (g.G.Image.seen c.args.image.now).content in
    let f = cluster_at content o.geometry.cluster in
    let none = listing-told o.geometry f c.args.view.now _ c.in-None.ensures.found in
    c.own_name.ensures
    ∙ sym (names-own c.args.sought.now c.args.base.number (file_lists o.geometry f c.args.view.now) c.args.view.now (records_in o content) (ap (λ (l : RecordListing). l.is_there) none))

pub returns-in-Some-clause-found : goal.returns-in-Some-clause-found
returns-in-Some-clause-found g c told =
    let o = c.args.table.now in
    let content = (g.G.Image.seen c.args.image.now).content in
    let f = cluster_at content o.geometry.cluster in
    let found = listing-told o.geometry f c.args.view.now _ c.in-Some.ensures.found in
    given-as c.name_in_list.result _ _
    (sym (names-listed c.args.sought.now c.args.base.number (file_lists o.geometry f c.args.view.now) c.args.view.now (records_in o content) (ap (λ (l : RecordListing). l.is_there) found.2 ∙ is-there _)
    ∙ ap (λ (l : RecordListing). have_sought false c.args.sought.now (listed_extents c.args.base.number file_name_kind [] l c.args.view.now.head.sequence (records_in o content))) found.2
    ∙ ap (λ (n : ℕ). have_sought false c.args.sought.now (listed_extents c.args.base.number file_name_kind [] (listing_of_bytes (list_bytes_of o.geometry f found.0 c.args.view.now)) n (records_in o content))) (sym c.requires.sequence)))
    (c.name_in_list.ensures.found told found.0 found.1)
