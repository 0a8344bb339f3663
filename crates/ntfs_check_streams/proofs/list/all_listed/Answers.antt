use Rattle.std.proofs.Common.{◌≡◌, ◌∙◌, Some, sym}
use Rattle.ntfs_check_records.specs.Entries.{good_entries}
use Rattle.std.specs.List.{list_all}
use Rattle.ntfs_attrlist.specs.Entry.{Listed}
use Rattle.ntfs_attrlist.specs.Reading.{list_items}
use Rattle.ntfs_base.proofs.FramesLemmas.{told_still}
use Rattle.ntfs_base.specs.Bytes.{cluster_at}
use Rattle.std.specs.Prelude.{IfOk}
use Rattle.ntfs_check_streams.proofs.NamedLemmas.{items-bad, items-good}
use Rattle.ntfs_check_streams.proofs.WalkLemmas.{first-fails, given-as, second-of}
use Rattle.ntfs_check_streams.proofs.list.all_listed.Goals as goal
use Rattle.ntfs_check_records.specs.Reading.{records_of}
use Rattle.ntfs_check_streams.specs.Said.{is_listed_stream, shown_in}
use Rattle.ntfs_record.specs.Views.{Shown}
use Rattle.ntfs_volume.specs.Views.{told_view}

pub returns-then-not-are_entries-clause-found : goal.returns-then-not-are_entries-clause-found
returns-then-not-are_entries-clause-found g c told =
    let o = c.args.table.now in
    items-bad o.geometry.cluster c.args.base.number c.args.base.sequence (records_of o (cluster_at (g.G.Image.seen c.args.image.now).content o.geometry.cluster)) (Some (told_view c.args.lead.now)) (shown_in c.args.view.now) c.args.list.now
    (sym c.are_entries.ensures ∙ c.if-not-are_entries.true)

pub returns-then-not-branch-clause-found : goal.returns-then-not-branch-clause-found
returns-then-not-branch-clause-found g c told =
    let o = c.args.table.now in
    let b = c.args.base in
    let slots = records_of o (cluster_at (g.G.Image.seen c.args.image.now).content o.geometry.cluster) in
    let entries = good_entries (list_items c.args.list.now) in
    let lead = Some (told_view c.args.lead.now) in
    first-fails (list_all (λ (s : Shown). is_listed_stream o.geometry.cluster b.number b.sequence slots entries lead s.kind s.name) (shown_in c.args.view.now))
    (list_all (λ (entry : Listed). is_listed_stream o.geometry.cluster b.number b.sequence slots entries lead entry.kind entry.name) entries)
    (sym (c.in_ok-own_listed.ensures.found told) ∙ c.if-not-branch.true)
    ∙ sym (items-good o.geometry.cluster b.number b.sequence slots lead (shown_in c.args.view.now) c.args.list.now (sym c.are_entries.ensures ∙ c.if-not-are_entries.false))

pub returns-clause-found : goal.returns-clause-found
returns-clause-found g c told =
    let o = c.args.table.now in
    let b = c.args.base in
    let slots = records_of o (cluster_at (g.G.Image.seen c.args.image.now).content o.geometry.cluster) in
    let entries = good_entries (list_items c.args.list.now) in
    let lead = Some (told_view c.args.lead.now) in
    given-as c.entries_listed.result _ _
    (second-of (list_all (λ (s : Shown). is_listed_stream o.geometry.cluster b.number b.sequence slots entries lead s.kind s.name) (shown_in c.args.view.now))
    (list_all (λ (entry : Listed). is_listed_stream o.geometry.cluster b.number b.sequence slots entries lead entry.kind entry.name) entries)
    (sym (c.in_ok-own_listed.ensures.found told) ∙ c.if-not-branch.false)
    ∙ sym (items-good o.geometry.cluster b.number b.sequence slots lead (shown_in c.args.view.now) c.args.list.now (sym c.are_entries.ensures ∙ c.if-not-are_entries.false)))
    (told_still g.G.Image _ _ (λ content. IfOk c.entries_listed.result (λ is. is ≡ list_all (λ (entry : Listed). is_listed_stream o.geometry.cluster b.number b.sequence (records_of o (cluster_at content o.geometry.cluster)) entries lead entry.kind entry.name) entries))
    c.in_ok-own_listed.ensures.reads.seen c.entries_listed.ensures.found told)
