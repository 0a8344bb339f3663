use Rattle.std.proofs.Common.{sym, ap, ◌∙◌, Err}
use Rattle.ntfs_record.specs.Slots.{tells_own}
use Rattle.ntfs_volume.proofs.FoundLemmas.{unfix-whole, unfixed-idle, unfixed-other, unfixed-own, unfixed-torn, unfixed-wrong}
use Rattle.ntfs_volume.proofs.table.unfix_record.Goals as goal

pub returns-then-not-is_in_use-clause-gives : goal.returns-then-not-is_in_use-clause-gives
returns-then-not-is_in_use-clause-gives c settled = unfixed-idle c.args.number c.args.raw.now (sym c.is_in_use.ensures ∙ c.if-not-is_in_use.true)

pub returns-then-is_err-clause-gives : goal.returns-then-is_err-clause-gives
returns-then-is_err-clause-gives c settled =
    unfixed-torn c.args.number c.args.raw.now c.unfix.new.block c.unfix.result (sym c.is_in_use.ensures ∙ c.if-not-is_in_use.false) c.unfix.ensures.exact (sym c.is_err.ensures.value ∙ c.if-is_err.true)
    ∙ ap Err (sym c.unsound.ensures)

pub returns-in-Err-clause-gives : goal.returns-in-Err-clause-gives
returns-in-Err-clause-gives c settled =
    unfixed-wrong c.args.number c.args.raw.now c.unfix.new.block _ (sym c.is_in_use.ensures ∙ c.if-not-is_in_use.false)
    (unfix-whole c.args.raw.now c.unfix.new.block c.unfix.result c.unfix.ensures.exact (sym c.is_err.ensures.value ∙ c.if-is_err.false)) (sym c.in-Err.ensures.exact)
    ∙ ap Err (sym c.unsound-in-Err.ensures)

pub returns-then-tells_own-clause-gives : goal.returns-then-tells_own-clause-gives
returns-then-tells_own-clause-gives c =
    unfixed-own c.args.number c.args.raw.now c.unfix.new.block c.in-Ok.view (sym c.is_in_use.ensures ∙ c.if-not-is_in_use.false)
    (unfix-whole c.args.raw.now c.unfix.new.block c.unfix.result c.unfix.ensures.exact (sym c.is_err.ensures.value ∙ c.if-is_err.false)) (sym c.in-Ok.ensures.exact)
    (ap (tells_own c.args.number) (sym c.number.ensures) ∙ sym c.tells_own.ensures ∙ c.if-tells_own.true)

pub returns-else-tells_own-clause-gives : goal.returns-else-tells_own-clause-gives
returns-else-tells_own-clause-gives c settled =
    unfixed-other c.args.number c.args.raw.now c.unfix.new.block c.in-Ok.view (sym c.is_in_use.ensures ∙ c.if-not-is_in_use.false)
    (unfix-whole c.args.raw.now c.unfix.new.block c.unfix.result c.unfix.ensures.exact (sym c.is_err.ensures.value ∙ c.if-is_err.false)) (sym c.in-Ok.ensures.exact)
    (ap (tells_own c.args.number) (sym c.number.ensures) ∙ sym c.tells_own.ensures ∙ c.if-tells_own.false)
    ∙ ap Err (sym c.unsound-else-tells_own.ensures)
