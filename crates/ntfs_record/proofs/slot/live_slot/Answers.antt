use Rattle.std.proofs.Common.{sym, ap, ◌∙◌}
use Rattle.ntfs_record.specs.Slots.{if_parsed, live_slot}
use Rattle.ntfs_record.proofs.SlotLemmas.{record-torn, record-whole}
use Rattle.ntfs_record.proofs.slot.live_slot.Goals as goal

pub returns-then-is_err : goal.returns-then-is_err
returns-then-is_err c =
    let torn =
    record-torn c.args.raw.now c.unfix.new.block c.unfix.result c.unfix.ensures.exact
    (sym c.is_err.ensures.value ∙ c.if-is_err.true) in
    sym (ap (live_slot c.args.number) torn)

pub returns-in-Err : goal.returns-in-Err
returns-in-Err c =
    let whole =
    record-whole c.args.raw.now c.unfix.new.block c.unfix.result c.unfix.ensures.exact
    (sym c.is_err.ensures.value ∙ c.if-is_err.false) in
    sym (ap (live_slot c.args.number) (whole ∙ ap if_parsed (sym c.in-Err.ensures.exact)))

pub returns-in-Ok : goal.returns-in-Ok
returns-in-Ok c =
    let whole =
    record-whole c.args.raw.now c.unfix.new.block c.unfix.result c.unfix.ensures.exact
    (sym c.is_err.ensures.value ∙ c.if-is_err.false) in
    c.own_slot.ensures ∙ sym (ap (live_slot c.args.number) (whole ∙ ap if_parsed (sym c.in-Ok.ensures.exact)))
