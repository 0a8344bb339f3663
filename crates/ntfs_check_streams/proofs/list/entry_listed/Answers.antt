use Rattle.std.proofs.Common.{Some}
use Rattle.ntfs_check_records.specs.Entries.{good_entries}
use Rattle.ntfs_attrlist.specs.Reading.{list_items}
use Rattle.ntfs_attrlist.specs.Views.{shown_entry}
use Rattle.ntfs_base.specs.Bytes.{cluster_at}
use Rattle.ntfs_check_streams.proofs.WalkLemmas.{like-holds}
use Rattle.ntfs_check_streams.proofs.list.entry_listed.Goals as goal
use Rattle.ntfs_check_records.specs.Reading.{records_of}
use Rattle.ntfs_check_streams.specs.Said.{is_listed_stream}
use Rattle.ntfs_volume.specs.Views.{told_view}

pub returns-then-is_like-clause-found : goal.returns-then-is_like-clause-found
returns-then-is_like-clause-found g c told before =
    let o = c.args.table.now in
    like-holds (is_listed_stream o.geometry.cluster c.args.base.number c.args.base.sequence (records_of o (cluster_at (g.G.Image.seen c.args.image.now).content o.geometry.cluster)) (good_entries (list_items c.args.list.now)) (Some (told_view c.args.lead.now)))
    c.args.last (shown_entry c.args.entry.now) c.is_like.result c.is_like.ensures c.if-is_like.true before
