use Rattle.std.proofs.Common.{◌∙◌, sym, arith}
use Rattle.ntfs_base.specs.Bytes.{cluster_at}
use Rattle.ntfs_check_records.proofs.RecordLemmas.{unread}
use Rattle.ntfs_check_records.proofs.records.read_sound.Goals as goal
use Rattle.ntfs_rules.proofs.ListLemmas.{uncut}
use Rattle.ntfs_volume.proofs.GatherLemmas.{read-parses, slot-said}

pub returns-in-None-clause-found : goal.returns-in-None-clause-found
returns-in-None-clause-found g c told =
    let o = c.args.table.now in
    let f = cluster_at (g.G.Image.seen c.args.image.now).content o.geometry.cluster in
    unread o.geometry o.map f c.args.number c.in-Err.fault (omega (arith, c.requires.block, c.requires.strides.least))
    (c.in-Err.ensures.gives told (uncut c.in-Err.fault (sym c.cut_of.ensures ∙ c.in-None.is)))

pub returns-in-Err-parse-clause-found : goal.returns-in-Err-parse-clause-found
returns-in-Err-parse-clause-found g c told =
    let o = c.args.table.now in
    let f = cluster_at (g.G.Image.seen c.args.image.now).content o.geometry.cluster in
    absurd (read-parses o.geometry o.map f c.args.number c.read_record.new.into c.in-Err-parse.field-0 (c.in-Ok.ensures.gives told) (sym c.in-Err-parse.ensures.exact))

pub returns-in-Ok-parse-clause-found : goal.returns-in-Ok-parse-clause-found
returns-in-Ok-parse-clause-found g c told =
    let o = c.args.table.now in
    let f = cluster_at (g.G.Image.seen c.args.image.now).content o.geometry.cluster in
    slot-said o.geometry o.map f c.args.number c.read_record.new.into c.in-Ok-parse.view (omega (arith, c.requires.block, c.requires.strides.least)) (c.in-Ok.ensures.gives told) (sym c.in-Ok-parse.ensures.exact)
