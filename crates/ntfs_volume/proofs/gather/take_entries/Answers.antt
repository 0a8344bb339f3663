use Rattle.std.proofs.Common.{◌≡◌, ◌∷◌, sym, ap, ◌∙◌, arith, Ok, Err, Result}
use Rattle.ntfs_attrlist.specs.Views.{shown_entry, shown_item}
use Rattle.ntfs_base.proofs.FramesLemmas.{told_still}
use Rattle.ntfs_base.specs.Frames.{IsSettled}
use Rattle.ntfs_volume.specs.Fault.{volume_origin}
use Rattle.ntfs_volume.specs.Gathering.{HoldsRecord, Progress, found_part, shown_parts, volume_slots}
use Rattle.ntfs_volume.specs.Located.{slot_at}
use Rattle.ntfs_volume.specs.References.{target}
use Rattle.ntfs_volume.specs.declared.fault.VolumeFault.{VolumeFault}
use Rattle.ntfs_volume.proofs.GatherItems.{item-fault, item-other, item-refused, item-taken, items-end, items-less, listed-bad, listed-items}
use Rattle.ntfs_volume.proofs.gather.take_entries.Goals as goal

pub returns-then-not-are_entries-clause-gives : goal.returns-then-not-are_entries-clause-gives
returns-then-not-are_entries-clause-gives g c told settled =
    listed-bad c.args.goal.now.number c.args.goal.now.sequence c.args.goal.now.kind c.args.goal.now.name.now (volume_slots c.args.table.now (g.G.Image.seen c.args.image.now).content) c.args.list.now (shown_parts c.args.parts.now)
    (sym c.are_entries.ensures ∙ c.if-not-are_entries.true) ∙ ap Err (sym c.bad_list.ensures)

pub entries-preserved-else-is_listed : goal.entries-preserved-else-is_listed
entries-preserved-else-is_listed g c =
    let items = c.in-Some.ensures.steps ∙ ap (λ item. shown_item item ∷ c.next.new.self) c.in-Ok.is in
    let less = items-less _ _ c.next.new.self items in
    record {
      can = tt;
      finite = tt;
      seen = c.entries.invariant.seen;
      counts = c.entries.invariant.counts;
      count = omega (arith, less, c.entries.invariant.count);
      are = c.entries.invariant.are;
      block = c.entries.invariant.block;
      known = c.entries.invariant.known;
      same = λ told.
          sym (item-other c.args.goal.now.number c.args.goal.now.sequence c.args.goal.now.kind c.args.goal.now.name.now (volume_slots c.args.table.now (g.G.Image.seen c.args.image.now).content) _ c.next.new.self
          (shown_entry c.in-Ok.entry) c.is_listed.result (shown_parts c.entries.parts) items c.is_listed.ensures c.if-is_listed.false) ∙ c.entries.invariant.same told;
    }

pub entries-preserved : goal.entries-preserved
entries-preserved g c =
    let items = c.in-Some.ensures.steps ∙ ap (λ item. shown_item item ∷ c.next.new.self) c.in_default.is in
    let less = items-less _ _ c.next.new.self items in
    record {
      can = tt;
      finite = tt;
      seen = c.entries.invariant.seen;
      counts = c.entries.invariant.counts;
      count = omega (arith, less, c.entries.invariant.count);
      are = c.entries.invariant.are;
      block = c.entries.invariant.block;
      known = c.entries.invariant.known;
      same = λ told.
          sym (item-fault c.args.goal.now.number c.args.goal.now.sequence c.args.goal.now.kind c.args.goal.now.name.now (volume_slots c.args.table.now (g.G.Image.seen c.args.image.now).content) _ c.next.new.self c.in_default.field-0 (shown_parts c.entries.parts) items) ∙ c.entries.invariant.same told;
    }

pub entries-preserved-in_default-take_entry : goal.entries-preserved-in_default-take_entry
entries-preserved-in_default-take_entry g c =
    let items = c.in-Some.ensures.steps ∙ ap (λ item. shown_item item ∷ c.next.new.self) c.in-Ok.is in
    let less = items-less _ _ c.next.new.self items in
    let done = c.in_default-take_entry.ensures in
    let found = told_still g.G.Image _ _ (λ content. ◌≡◌ {A = Result Progress VolumeFault} (found_part c.args.goal.now.number c.args.goal.now.sequence (shown_entry c.in-Ok.entry)
    (slot_at (volume_slots c.args.table.now content) (target c.in-Ok.entry.reference)) (shown_parts c.entries.parts)) (Ok (shown_parts c.take_entry.new.parts))) c.entries.invariant.seen done.gives in
    record {
      can = tt;
      finite = tt;
      seen = done.reads.seen ∙ c.entries.invariant.seen;
      counts = record { reads = omega (arith, done.reads.counts.reads, c.entries.invariant.counts.reads); writes = omega (arith, done.reads.counts.writes, c.entries.invariant.counts.writes) };
      count = omega (arith, less, done.count, c.entries.invariant.count);
      are = done.parts;
      block = done.block;
      known = told_still g.G.Image _ _ (λ content. HoldsRecord c.args.table.now content c.take_entry.new.held) c.entries.invariant.seen done.known;
      same = λ told.
          sym (item-taken c.args.goal.now.number c.args.goal.now.sequence c.args.goal.now.kind c.args.goal.now.name.now (volume_slots c.args.table.now (g.G.Image.seen c.args.image.now).content) _ c.next.new.self
          (shown_entry c.in-Ok.entry) c.is_listed.result (shown_parts c.entries.parts) (shown_parts c.take_entry.new.parts) items c.is_listed.ensures c.if-is_listed.true (found told)) ∙ c.entries.invariant.same told;
    }

pub returns-in-Err-clause-gives : goal.returns-in-Err-clause-gives
returns-in-Err-clause-gives g c told settled =
    let items = c.in-Some.ensures.steps ∙ ap (λ item. shown_item item ∷ c.next.new.self) c.in-Ok.is in
    let found = told_still g.G.Image _ _ (λ content. IsSettled (volume_origin c.in-Err.fault) → ◌≡◌ {A = Result Progress VolumeFault} (found_part c.args.goal.now.number c.args.goal.now.sequence (shown_entry c.in-Ok.entry)
    (slot_at (volume_slots c.args.table.now content) (target c.in-Ok.entry.reference)) (shown_parts c.entries.parts)) (Err c.in-Err.fault)) c.entries.invariant.seen c.in-Err.ensures.gives in
    listed-items c.args.goal.now.number c.args.goal.now.sequence c.args.goal.now.kind c.args.goal.now.name.now (volume_slots c.args.table.now (g.G.Image.seen c.args.image.now).content) c.args.list.now (shown_parts c.args.parts.now)
    (sym c.are_entries.ensures ∙ c.if-not-are_entries.false)
    ∙ sym (c.entries.invariant.same told)
    ∙ item-refused c.args.goal.now.number c.args.goal.now.sequence c.args.goal.now.kind c.args.goal.now.name.now (volume_slots c.args.table.now (g.G.Image.seen c.args.image.now).content) _ c.next.new.self
    (shown_entry c.in-Ok.entry) c.is_listed.result (shown_parts c.entries.parts) c.in-Err.fault items c.is_listed.ensures c.if-is_listed.true (found told settled)

pub returns-clause-gives : goal.returns-clause-gives
returns-clause-gives g c told =
    listed-items c.args.goal.now.number c.args.goal.now.sequence c.args.goal.now.kind c.args.goal.now.name.now (volume_slots c.args.table.now (g.G.Image.seen c.args.image.now).content) c.args.list.now (shown_parts c.args.parts.now)
    (sym c.are_entries.ensures ∙ c.if-not-are_entries.false)
    ∙ sym (c.entries.invariant.same told)
    ∙ items-end c.args.goal.now.number c.args.goal.now.sequence c.args.goal.now.kind c.args.goal.now.name.now (volume_slots c.args.table.now (g.G.Image.seen c.args.image.now).content) _ (shown_parts c.entries.parts) c.in-None.ensures.steps.0
