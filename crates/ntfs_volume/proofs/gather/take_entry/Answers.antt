use Rattle.std.proofs.Common.{ℕ, sym, ap, subst, ◌∙◌, arith, Err}
use Rattle.ntfs_attrlist.specs.Views.{shown_entry}
use Rattle.ntfs_base.specs.Bytes.{cluster_at}
use Rattle.ntfs_base.specs.Frames.{IsSettled, Origin}
use Rattle.ntfs_boot.specs.declared.geometry.Geometry.{Geometry}
use Rattle.ntfs_record.specs.Parsing.{parse_of}
use Rattle.ntfs_volume.specs.Fault.{volume_origin}
use Rattle.ntfs_volume.specs.Gathering.{cell_slot, found_part, shown_parts, volume_slots}
use Rattle.ntfs_volume.specs.Located.{slot_at}
use Rattle.ntfs_volume.proofs.AnswerLemmas.{gives_by}
use Rattle.ntfs_volume.proofs.GatherLemmas.{IsFaulty, entry-origin, faulty-part, read-parses, slot-faulty, slot-read}
use Rattle.ntfs_volume.proofs.gather.take_entry.Goals as goal

pub returns-then-number-goal-clause-gives : goal.returns-then-number-goal-clause-gives
returns-then-number-goal-clause-gives g c told =
    let slots = volume_slots c.args.table.now (g.G.Image.seen c.args.image.now).content in
    gives_by volume_origin _ _ _ c.take_extent.result
    (ap (λ slot. found_part c.args.goal.now.number c.args.goal.now.sequence (shown_entry c.args.entry.now) slot (shown_parts c.args.parts.now))
    (ap (slot_at slots) (sym c.target-number.ensures ∙ c.if-number-goal.true) ∙ c.requires.base told ∙ ap (λ (k : Geometry). cell_slot k.clusters c.args.base.now) (sym c.geometry.ensures.kept)))
    c.take_extent.ensures.gives

pub returns-in-Err-clause-gives : goal.returns-in-Err-clause-gives
returns-in-Err-clause-gives g c told settled =
    let o = c.args.table.now in
    let f = cluster_at (g.G.Image.seen c.args.image.now).content o.geometry.cluster in
    let slots = volume_slots o (g.G.Image.seen c.args.image.now).content in
    let cut = subst (λ (origin : Origin). IsSettled origin) (ap volume_origin c.entry_fault.ensures ∙ entry-origin c.args.goal.now.number c.in-Err.fault) settled in
    let faulty = slot-faulty o.geometry o.map f c.target-number.result c.in-Err.fault (omega (arith, c.geometry.ensures.good.least_record)) (c.in-Err.ensures.gives told cut) in
    faulty-part c.args.goal.now.number c.args.goal.now.sequence (shown_entry c.args.entry.now) _ (shown_parts c.args.parts.now) c.in-Err.fault
    (subst (λ (n : ℕ). IsFaulty n (slot_at slots n) c.in-Err.fault) c.target-number.ensures faulty) ∙ ap Err (sym c.entry_fault.ensures)

pub returns-in-Err-parse-clause-gives : goal.returns-in-Err-parse-clause-gives
returns-in-Err-parse-clause-gives g c told settled =
    let o = c.args.table.now in
    let f = cluster_at (g.G.Image.seen c.args.image.now).content o.geometry.cluster in
    absurd (read-parses o.geometry o.map f c.target-number.result c.read.new.self.block.items c.in-Err-parse.field-0 (c.in-Ok.ensures.gives told)
    (ap parse_of (sym c.deref.ensures.value) ∙ sym c.in-Err-parse.ensures.exact))

pub returns-in-Ok-parse-clause-gives : goal.returns-in-Ok-parse-clause-gives
returns-in-Ok-parse-clause-gives g c told =
    let o = c.args.table.now in
    let f = cluster_at (g.G.Image.seen c.args.image.now).content o.geometry.cluster in
    let slots = volume_slots o (g.G.Image.seen c.args.image.now).content in
    let here = slot-read o.geometry o.map f c.target-number.result c.read.new.self.block.items c.in-Ok-parse.holder (omega (arith, c.geometry.ensures.good.least_record)) (c.in-Ok.ensures.gives told)
    (ap parse_of (sym c.deref.ensures.value) ∙ sym c.in-Ok-parse.ensures.exact) in
    gives_by volume_origin _ _ _ c.take_extent-in-Ok-parse.result
    (ap (λ slot. found_part c.args.goal.now.number c.args.goal.now.sequence (shown_entry c.args.entry.now) slot (shown_parts c.args.parts.now))
    (ap (slot_at slots) (sym c.target-number.ensures) ∙ here ∙ ap (λ (k : Geometry). cell_slot k.clusters c.in-Ok-parse.holder) (sym c.geometry.ensures.kept)))
    c.take_extent-in-Ok-parse.ensures.gives
