use Rattle.std.proofs.Common.{map}
use Rattle.ntfs_base.specs.Bytes.{cluster_at}
use Rattle.ntfs_check_files.proofs.MemberLemmas.{kept-none, kept-said}
use Rattle.ntfs_check_files.proofs.members.keep_extension.Goals as goal
use Rattle.ntfs_check_records.specs.Reading.{records_of}
use Rattle.ntfs_check_files.specs.Members.{told_member}
use Rattle.ntfs_volume.specs.Located.{slot_at}

pub returns-in-Ok-None-clause-kept : goal.returns-in-Ok-None-clause-kept
returns-in-Ok-None-clause-kept g c told =
    let o = c.args.table.now in
    kept-none (map told_member c.args.kept.now.items) c.args.number (slot_at (records_of o (cluster_at (g.G.Image.seen c.args.image.now).content o.geometry.cluster)) c.args.number) c.in-Ok-None.field-0
    c.in-Ok-None.field-0-is (c.in-Ok-None.ensures.found told)

pub returns-in_ok-keep_attributes-in-Ok-Some-clause-kept : goal.returns-in_ok-keep_attributes-in-Ok-Some-clause-kept
returns-in_ok-keep_attributes-in-Ok-Some-clause-kept g c told =
    let o = c.args.table.now in
    kept-said (map told_member c.args.kept.now.items) (map told_member c.keep_attributes.new.kept.items) c.args.number
    (slot_at (records_of o (cluster_at (g.G.Image.seen c.args.image.now).content o.geometry.cluster)) c.args.number) c.in-Ok-Some.field-0 c.in-Ok-Some.view
    c.in-Ok-Some.field-0-is (c.in-Ok-Some.ensures.found told) c.in_ok-keep_attributes-in-Ok-Some.ensures
