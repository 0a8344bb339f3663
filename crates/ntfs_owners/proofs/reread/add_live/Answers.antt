use Rattle.std.proofs.Common.{ap, sym, ◌∙◌, ◌++◌, map}
use Rattle.std.proofs.lemmas.Result.{on_ok_weaker}
use Rattle.ntfs_record.specs.Slots.{if_parsed, record_in}
use Rattle.ntfs_record.proofs.SlotLemmas.{record-torn, record-whole}
use Rattle.ntfs_volume.specs.Located.{live_located}
use Rattle.ntfs_owners.specs.Held.{held_of, slot_held, wants_record, wants_runs}
use Rattle.ntfs_owners.proofs.HeldLemmas.{adds-none, held-read, held-unread}
use Rattle.ntfs_owners.proofs.reread.add_live.Goals as goal

pub returns-then-is_err : goal.returns-then-is_err
returns-then-is_err c =
    let p = wants_record c.args.wanted.now in
    let q = wants_runs c.args.wanted.now in
    adds-none (map held_of c.args.held.now.items) (slot_held p q c.args.number (live_located c.args.number (record_in c.args.raw.now)))
    (held-unread p q c.args.number (record_in c.args.raw.now)
    (record-torn c.args.raw.now c.unfix.new.block c.unfix.result c.unfix.ensures.exact (sym c.is_err.ensures.value ∙ c.if-is_err.true)))

pub returns-in-Err : goal.returns-in-Err
returns-in-Err c =
    let p = wants_record c.args.wanted.now in
    let q = wants_runs c.args.wanted.now in
    adds-none (map held_of c.args.held.now.items) (slot_held p q c.args.number (live_located c.args.number (record_in c.args.raw.now)))
    (held-unread p q c.args.number (record_in c.args.raw.now)
    (record-whole c.args.raw.now c.unfix.new.block c.unfix.result c.unfix.ensures.exact (sym c.is_err.ensures.value ∙ c.if-is_err.false) ∙ ap if_parsed (sym c.in-Err.ensures.exact)))

pub returns-in-Ok : goal.returns-in-Ok
returns-in-Ok c =
    let p = wants_record c.args.wanted.now in
    let q = wants_runs c.args.wanted.now in
    let read = held-read p q c.args.number (record_in c.args.raw.now) c.in-Ok.view
    (record-whole c.args.raw.now c.unfix.new.block c.unfix.result c.unfix.ensures.exact (sym c.is_err.ensures.value ∙ c.if-is_err.false) ∙ ap if_parsed (sym c.in-Ok.ensures.exact)) in
    on_ok_weaker c.add_view.result (λ is. is ∙ ap (λ xs. map held_of c.args.held.now.items ++ xs) (sym read)) c.add_view.ensures
