use Rattle.std.proofs.Common.{◌∙◌, ap, sym}
use Rattle.ntfs_check_records.proofs.RecordLemmas.{raw-idle, raw-other, raw-own, raw-torn}
use Rattle.ntfs_check_records.proofs.records.sound_record.Goals as goal
use Rattle.ntfs_record.proofs.SlotLemmas.{record-torn, record-whole}
use Rattle.ntfs_record.specs.Slots.{if_parsed, tells_own}

pub returns-then-not-is_in_use : goal.returns-then-not-is_in_use
returns-then-not-is_in_use c = raw-idle c.args.number c.args.raw.now (sym c.is_in_use.ensures ∙ c.if-not-is_in_use.true)

pub returns-then-is_err : goal.returns-then-is_err
returns-then-is_err c =
    raw-torn c.args.number c.args.raw.now (sym c.is_in_use.ensures ∙ c.if-not-is_in_use.false)
    (record-torn c.args.raw.now c.unfix.new.block c.unfix.result c.unfix.ensures.exact (sym c.is_err.ensures.value ∙ c.if-is_err.true))

pub returns-in-Err : goal.returns-in-Err
returns-in-Err c =
    raw-torn c.args.number c.args.raw.now (sym c.is_in_use.ensures ∙ c.if-not-is_in_use.false)
    (record-whole c.args.raw.now c.unfix.new.block c.unfix.result c.unfix.ensures.exact (sym c.is_err.ensures.value ∙ c.if-is_err.false) ∙ ap if_parsed (sym c.in-Err.ensures.exact))

pub returns-then-tells_own : goal.returns-then-tells_own
returns-then-tells_own c =
    raw-own c.args.number c.args.raw.now c.in-Ok.view (sym c.is_in_use.ensures ∙ c.if-not-is_in_use.false)
    (record-whole c.args.raw.now c.unfix.new.block c.unfix.result c.unfix.ensures.exact (sym c.is_err.ensures.value ∙ c.if-is_err.false) ∙ ap if_parsed (sym c.in-Ok.ensures.exact))
    (ap (tells_own c.args.number) (sym c.number.ensures) ∙ sym c.tells_own.ensures ∙ c.if-tells_own.true)

pub returns-else-tells_own : goal.returns-else-tells_own
returns-else-tells_own c =
    raw-other c.args.number c.args.raw.now c.in-Ok.view (sym c.is_in_use.ensures ∙ c.if-not-is_in_use.false)
    (record-whole c.args.raw.now c.unfix.new.block c.unfix.result c.unfix.ensures.exact (sym c.is_err.ensures.value ∙ c.if-is_err.false) ∙ ap if_parsed (sym c.in-Ok.ensures.exact))
    (ap (tells_own c.args.number) (sym c.number.ensures) ∙ sym c.tells_own.ensures ∙ c.if-tells_own.false)
