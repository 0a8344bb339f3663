use Rattle.std.proofs.Common.{◌∙◌, ap, Some}
use Rattle.ntfs_check_records.specs.Entries.{good_entries}
use Rattle.std.specs.Prelude.{filter}
use Rattle.ntfs_attrlist.specs.Reading.{list_items}
use Rattle.ntfs_base.specs.Bytes.{cluster_at}
use Rattle.ntfs_check_streams.proofs.NamedLemmas.{listed-are}
use Rattle.ntfs_check_streams.proofs.WalkLemmas.{given-as}
use Rattle.ntfs_check_streams.proofs.list.are_listed.Goals as goal
use Rattle.ntfs_check_records.specs.Reading.{records_of}
use Rattle.ntfs_check_streams.specs.Join.{are_joined}
use Rattle.ntfs_check_streams.specs.declared.join.Joined.{Joined}
use Rattle.ntfs_volume.specs.Gather.{all_found, lists}
use Rattle.ntfs_volume.specs.Views.{told_view}

pub returns-clause-found : goal.returns-clause-found
returns-clause-found g c told =
    let o = c.args.table.now in
    let b = c.args.base in
    let slots = records_of o (cluster_at (g.G.Image.seen c.args.image.now).content o.geometry.cluster) in
    let entries = good_entries (list_items c.args.list.now) in
    given-as c.join_entries.result _ _
    (ap (λ (start : Joined). are_joined o.geometry.cluster c.args.kind start (all_found b.number b.sequence slots (filter (lists c.args.kind c.args.name.now) entries))) c.join_lead-start.ensures
    ∙ listed-are o.geometry.cluster b.number b.sequence slots entries (Some (told_view c.args.lead.now)) c.args.kind c.args.name.now)
    (c.join_entries.ensures.found told)
