use Rattle.ntfs_attrlist.specs.Views.{shown_entry}
use Rattle.ntfs_base.specs.Bytes.{cluster_at}
use Rattle.ntfs_check_streams.proofs.NamedLemmas.{span-read, span-unread}
use Rattle.ntfs_check_streams.proofs.named.read_span.Goals as goal
use Rattle.ntfs_check_records.specs.Reading.{records_of}

pub returns-in-Ok-None-clause-found : goal.returns-in-Ok-None-clause-found
returns-in-Ok-None-clause-found g c told =
    let o = c.args.table.now in
    span-unread c.args.base.number c.args.base.sequence (shown_entry c.args.entry.now) (records_of o (cluster_at (g.G.Image.seen c.args.image.now).content o.geometry.cluster)) c.target.result c.in-Ok-None.field-0
    c.target.ensures c.in-Ok-None.field-0-is (c.in-Ok-None.ensures.found told)

pub returns-in-Ok-Some-clause-found : goal.returns-in-Ok-Some-clause-found
returns-in-Ok-Some-clause-found g c told =
    let o = c.args.table.now in
    span-read c.args.base.number c.args.base.sequence (shown_entry c.args.entry.now) (records_of o (cluster_at (g.G.Image.seen c.args.image.now).content o.geometry.cluster)) c.target.result c.in-Ok-Some.field-0 c.in-Ok-Some.holder
    c.found_span.result c.target.ensures c.in-Ok-Some.field-0-is (c.in-Ok-Some.ensures.found told) c.found_span.ensures
