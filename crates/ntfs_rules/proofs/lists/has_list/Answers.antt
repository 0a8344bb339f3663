use Rattle.std.proofs.Common.{◌≡◌, ◌∙◌, ap, sym, arith, length}
use Rattle.ntfs_base.specs.Bytes.{cluster_at}
use Rattle.ntfs_rules.proofs.ContentLemmas.{whole-buffer}
use Rattle.ntfs_rules.proofs.ListLemmas.{clash, list-is, no-list, raw-past, uncut}
use Rattle.ntfs_rules.proofs.lists.has_list.Goals as goal
use Rattle.ntfs_record.specs.Parsing.{parse_of}

pub returns-in-Err-clause-found : goal.returns-in-Err-clause-found
returns-in-Err-clause-found g c told =
    let o = c.args.table.now in
    let f = cluster_at (g.G.Image.seen c.args.image.now).content o.geometry.cluster in
    no-list o.geometry o.map f c.args.number c.in-Err.fault (raw-past o.geometry o.map f c.args.number (omega (arith, c.geometry.ensures.good.least_record)))
    (c.in-Err.ensures.gives told (uncut c.in-Err.fault (sym c.cut_of.ensures ∙ c.in-None.is)))

pub returns-in-Err-parse-clause-found : goal.returns-in-Err-parse-clause-found
returns-in-Err-parse-clause-found g c told =
    let o = c.args.table.now in
    let f = cluster_at (g.G.Image.seen c.args.image.now).content o.geometry.cluster in
    let long : length c.read_record.new.into ≡ c.in_ok-block.block.len = c.read_record.auto.into ∙ c.deref_mut.ensures.len in
    let held : c.deref.result.now ≡ c.read_record.new.into = c.deref.ensures.value ∙ whole-buffer c.read_record.new.into _ c.in_ok-block.block.len long in
    let said = c.records_are_slots.ensures.read o.geometry o.map f c.args.number c.read_record.new.into (c.in-Ok.ensures.gives told) in
    absurd (clash _ _ _ (ap parse_of held ∙ said.1) (sym c.in-Err-parse.ensures.exact))

pub returns-clause-found : goal.returns-clause-found
returns-clause-found g c told =
    let o = c.args.table.now in
    let f = cluster_at (g.G.Image.seen c.args.image.now).content o.geometry.cluster in
    let long : length c.read_record.new.into ≡ c.in_ok-block.block.len = c.read_record.auto.into ∙ c.deref_mut.ensures.len in
    let held : c.deref.result.now ≡ c.read_record.new.into = c.deref.ensures.value ∙ whole-buffer c.read_record.new.into _ c.in_ok-block.block.len long in
    c.has_list_attribute.ensures
    ∙ list-is o.geometry o.map f c.args.number c.read_record.new.into c.in-Ok-parse.view (raw-past o.geometry o.map f c.args.number (omega (arith, c.geometry.ensures.good.least_record)))
    (c.in-Ok.ensures.gives told) (ap parse_of (sym held) ∙ sym c.in-Ok-parse.ensures.exact)
