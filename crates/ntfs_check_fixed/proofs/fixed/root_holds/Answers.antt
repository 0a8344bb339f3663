use Rattle.std.proofs.Common.{◌≡◌, ◌∙◌, ap, sym, arith, length}
use Rattle.ntfs_base.specs.Bytes.{cluster_at}
use Rattle.ntfs_check_fixed.proofs.FixedLemmas.{no-root, root-is}
use Rattle.ntfs_check_fixed.proofs.fixed.root_holds.Goals as goal
use Rattle.ntfs_record.specs.Parsing.{parse_of}
use Rattle.ntfs_rules.proofs.ContentLemmas.{whole-buffer}
use Rattle.ntfs_rules.proofs.ListLemmas.{uncut}
use Rattle.ntfs_volume.proofs.GatherLemmas.{read-parses}

pub returns-in-Err-clause-found : goal.returns-in-Err-clause-found
returns-in-Err-clause-found g c told =
    let o = c.args.table.now in
    let f = cluster_at (g.G.Image.seen c.args.image.now).content o.geometry.cluster in
    no-root o.geometry o.map f c.in-Err.fault (omega (arith, c.geometry.ensures.good.least_record)) (c.in-Err.ensures.gives told (uncut c.in-Err.fault (sym c.cut_of.ensures ∙ c.in-None.is)))

pub returns-in-Err-parse-clause-found : goal.returns-in-Err-parse-clause-found
returns-in-Err-parse-clause-found g c told =
    let o = c.args.table.now in
    let f = cluster_at (g.G.Image.seen c.args.image.now).content o.geometry.cluster in
    let long : length c.read_record.new.into ≡ c.in_ok-block.block.len = c.read_record.auto.into ∙ c.deref_mut.ensures.len in
    let held : c.deref.result.now ≡ c.read_record.new.into = c.deref.ensures.value ∙ whole-buffer c.read_record.new.into _ c.in_ok-block.block.len long in
    absurd (read-parses o.geometry o.map f 5 c.read_record.new.into c.in-Err-parse.field-0 (c.in-Ok.ensures.gives told) (ap parse_of (sym held) ∙ sym c.in-Err-parse.ensures.exact))

pub returns-clause-found : goal.returns-clause-found
returns-clause-found g c told =
    let o = c.args.table.now in
    let f = cluster_at (g.G.Image.seen c.args.image.now).content o.geometry.cluster in
    let long : length c.read_record.new.into ≡ c.in_ok-block.block.len = c.read_record.auto.into ∙ c.deref_mut.ensures.len in
    let held : c.deref.result.now ≡ c.read_record.new.into = c.deref.ensures.value ∙ whole-buffer c.read_record.new.into _ c.in_ok-block.block.len long in
    root-is o.geometry o.map f c.read_record.new.into c.in-Ok-parse.view c.flags.result (omega (arith, c.geometry.ensures.good.least_record)) (c.in-Ok.ensures.gives told)
    (ap parse_of (sym held) ∙ sym c.in-Ok-parse.ensures.exact) c.flags.ensures
