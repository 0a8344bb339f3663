use Rattle.ntfs_base.specs.Bytes.{cluster_at}
use Rattle.ntfs_check_files.proofs.BaseLemmas.{base-read, base-unread}
use Rattle.ntfs_check_files.proofs.bases.names_base.Goals as goal
use Rattle.ntfs_check_records.specs.Reading.{records_of}

pub returns-in-Ok-None-clause-answers : goal.returns-in-Ok-None-clause-answers
returns-in-Ok-None-clause-answers g c told whole =
    let o = c.args.table.now in
    base-unread (records_of o (cluster_at (g.G.Image.seen c.args.image.now).content o.geometry.cluster)) c.args.reference c.target.result c.in-Ok-None.field-0 whole c.target.ensures c.in-Ok-None.field-0-is
    (c.in-Ok-None.ensures.found told)

pub returns-clause-answers : goal.returns-clause-answers
returns-clause-answers g c told whole =
    let o = c.args.table.now in
    base-read (records_of o (cluster_at (g.G.Image.seen c.args.image.now).content o.geometry.cluster)) c.args.reference c.target.result c.in-Ok-Some.field-0 c.in-Ok-Some.view c.is_base_for.result c.target.ensures
    c.in-Ok-Some.field-0-is (c.in-Ok-Some.ensures.found told) c.is_base_for.ensures
