use Rattle.std.proofs.Common.{ap, sym, ◌∙◌, Err}
use Rattle.ntfs_record.specs.Slots.{if_parsed, record_in, tells_own}
use Rattle.ntfs_record.proofs.SlotLemmas.{record-torn, record-whole}
use Rattle.ntfs_survey.proofs.RecordLemmas.{take-other, take-own, take-unread}
use Rattle.ntfs_survey.proofs.records.take_live.Goals as goal

pub returns-then-is_err-clause-gives : goal.returns-then-is_err-clause-gives
returns-then-is_err-clause-gives c settled =
    take-unread c.args.clusters c.args.number c.args.findings.now (record_in c.args.raw.now)
    (record-torn c.args.raw.now c.unfix.new.block c.unfix.result c.unfix.ensures.exact (sym c.is_err.ensures.value ∙ c.if-is_err.true))
    ∙ ap Err (sym c.unsound.ensures)

pub returns-in-Err-clause-gives : goal.returns-in-Err-clause-gives
returns-in-Err-clause-gives c settled =
    take-unread c.args.clusters c.args.number c.args.findings.now (record_in c.args.raw.now)
    (record-whole c.args.raw.now c.unfix.new.block c.unfix.result c.unfix.ensures.exact (sym c.is_err.ensures.value ∙ c.if-is_err.false) ∙ ap if_parsed (sym c.in-Err.ensures.exact))
    ∙ ap Err (sym c.unsound-in-Err.ensures)

pub returns-then-not-tells_own-clause-gives : goal.returns-then-not-tells_own-clause-gives
returns-then-not-tells_own-clause-gives c settled =
    take-other c.args.clusters c.args.number c.args.findings.now (record_in c.args.raw.now) c.in-Ok.view
    (record-whole c.args.raw.now c.unfix.new.block c.unfix.result c.unfix.ensures.exact (sym c.is_err.ensures.value ∙ c.if-is_err.false) ∙ ap if_parsed (sym c.in-Ok.ensures.exact))
    (ap (tells_own c.args.number) (sym c.number.ensures) ∙ sym c.tells_own.ensures ∙ c.if-not-tells_own.true)
    ∙ ap Err (sym c.unsound-then-not-tells_own.ensures)

pub returns-in_ok-take_attributes-in-Ok-clause-gives : goal.returns-in_ok-take_attributes-in-Ok-clause-gives
returns-in_ok-take_attributes-in-Ok-clause-gives c =
    take-own c.args.clusters c.args.number c.args.findings.now c.take_attributes.new.findings (record_in c.args.raw.now) c.in-Ok.view
    (record-whole c.args.raw.now c.unfix.new.block c.unfix.result c.unfix.ensures.exact (sym c.is_err.ensures.value ∙ c.if-is_err.false) ∙ ap if_parsed (sym c.in-Ok.ensures.exact))
    (ap (tells_own c.args.number) (sym c.number.ensures) ∙ sym c.tells_own.ensures ∙ c.if-not-tells_own.false)
    c.in_ok-take_attributes-in-Ok.ensures
