use Rattle.std.proofs.Common.{◌≡◌, sym, ap, subst, ◌∙◌, arith}
use Rattle.std.specs.Prelude.{IsTrue}
use Rattle.ntfs_base.specs.Bytes.{cluster_at}
use Rattle.ntfs_base.specs.Image.{ImageState}
use Rattle.ntfs_record.specs.Parsing.{parse_of}
use Rattle.ntfs_volume.specs.Fault.{volume_origin}
use Rattle.ntfs_volume.specs.Gathering.{cell_slot, file_lists, stream_in_file, volume_slots}
use Rattle.ntfs_volume.specs.Located.{slot_at}
use Rattle.ntfs_volume.proofs.AnswerLemmas.{gives_by}
use Rattle.ntfs_volume.proofs.FileLemmas.{gather-extension, gather-faulty, gather-file, is-base, not-base}
use Rattle.ntfs_volume.proofs.GatherLemmas.{read-parses, slot-read}
use Rattle.ntfs_volume.proofs.ListLemmas.{list-back}
use Rattle.ntfs_volume.proofs.table.Table.gather.Goals as goal

pub returns-in-Err-clause-gives : goal.returns-in-Err-clause-gives
returns-in-Err-clause-gives g c told settled =
    let o = c.args.self.now in
    gather-faulty o.geometry o.map (cluster_at (g.G.Image.seen c.args.image.now).content o.geometry.cluster) c.args.base c.args.kind c.args.name.now c.in-Err.fault
    (omega (arith, c.geometry.ensures.good.least_record)) (c.in-Err.ensures.gives told settled)

pub returns-in-Err-parse-clause-gives : goal.returns-in-Err-parse-clause-gives
returns-in-Err-parse-clause-gives g c told settled =
    let o = c.args.self.now in
    absurd (read-parses o.geometry o.map (cluster_at (g.G.Image.seen c.args.image.now).content o.geometry.cluster) c.args.base c.read_record.new.into c.in-Err-parse.field-0 (c.in_default.ensures.gives told)
    (ap parse_of (sym (c.deref.ensures.value ∙ list-back c.in_ok-block.block.len c.read_record.new.into c.in_ok-block.block.items c.deref_mut.result.now c.read_record.auto.into c.deref_mut.ensures.value c.in_ok-block.block.ok.0))
    ∙ sym c.in-Err-parse.ensures.exact))

pub returns-then-base-ne0-clause-gives : goal.returns-then-base-ne0-clause-gives
returns-then-base-ne0-clause-gives g c told settled =
    let o = c.args.self.now in
    gather-extension o.geometry o.map (cluster_at (g.G.Image.seen c.args.image.now).content o.geometry.cluster) c.args.base c.args.kind c.args.name.now c.read_record.new.into c.in-Ok.view
    (omega (arith, c.geometry.ensures.good.least_record)) (c.in_default.ensures.gives told)
    (ap parse_of (sym (c.deref.ensures.value ∙ list-back c.in_ok-block.block.len c.read_record.new.into c.in_ok-block.block.items c.deref_mut.result.now c.read_record.auto.into c.deref_mut.ensures.value c.in_ok-block.block.ok.0))
    ∙ sym c.in-Ok.ensures.exact)
    (not-base c.base.result c.in-Ok.view.head.base c.base.ensures c.if-base-ne0.true)

pub gather_file-requires-clause-base : goal.gather_file-requires-clause-base
gather_file-requires-clause-base g c =
    let o = c.args.self.now in
    subst (λ (s : ImageState). IsTrue s.is_told → slot_at (volume_slots o s.content) c.args.base ≡ cell_slot o.geometry.clusters c.in-Ok.view) (sym c.in_default.ensures.reads.seen)
    (λ told. slot-read o.geometry o.map (cluster_at (g.G.Image.seen c.args.image.now).content o.geometry.cluster) c.args.base c.read_record.new.into c.in-Ok.view
    (omega (arith, c.geometry.ensures.good.least_record)) (c.in_default.ensures.gives told)
    (ap parse_of (sym (c.deref.ensures.value ∙ list-back c.in_ok-block.block.len c.read_record.new.into c.in_ok-block.block.items c.deref_mut.result.now c.read_record.auto.into c.deref_mut.ensures.value c.in_ok-block.block.ok.0))
    ∙ sym c.in-Ok.ensures.exact))

pub returns-clause-gives : goal.returns-clause-gives
returns-clause-gives g c told =
    let o = c.args.self.now in
    let seen = c.in_default.ensures.reads.seen in
    gives_by volume_origin _ _ _ c.gather_file.result
    (gather-file o.geometry o.map (cluster_at (g.G.Image.seen c.args.image.now).content o.geometry.cluster) c.args.base c.args.kind c.args.name.now c.read_record.new.into c.in-Ok.view
    (omega (arith, c.geometry.ensures.good.least_record)) (c.in_default.ensures.gives told)
    (ap parse_of (sym (c.deref.ensures.value ∙ list-back c.in_ok-block.block.len c.read_record.new.into c.in_ok-block.block.items c.deref_mut.result.now c.read_record.auto.into c.deref_mut.ensures.value c.in_ok-block.block.ok.0))
    ∙ sym c.in-Ok.ensures.exact)
    (is-base c.base.result c.in-Ok.view.head.base c.base.ensures c.if-base-ne0.false)
    ∙ ap (λ (s : ImageState). stream_in_file o.geometry.cluster c.args.base c.args.kind c.args.name.now (file_lists o.geometry (cluster_at s.content o.geometry.cluster) c.in-Ok.view)
    (cell_slot o.geometry.clusters c.in-Ok.view) (volume_slots o s.content)) (sym seen))
    (c.gather_file.ensures.gives (subst (λ (s : ImageState). IsTrue s.is_told) (sym seen) told))
