use Rattle.std.proofs.Common.{◌∙◌, ap, sym}
use Rattle.std.specs.Prelude.{not}
use Rattle.ntfs_check_clusters.proofs.AskedLemmas.{names-other, names-own, names-unread}
use Rattle.ntfs_check_clusters.proofs.asked.passes_names.Goals as goal
use Rattle.ntfs_record.proofs.SlotLemmas.{record-torn, record-whole}
use Rattle.ntfs_record.specs.Slots.{if_parsed, record_in, tells_own}

pub returns-then-is_err : goal.returns-then-is_err
returns-then-is_err c =
    names-unread c.args.number (record_in c.args.raw.now)
    (record-torn c.args.raw.now c.unfix.new.block c.unfix.result c.unfix.ensures.exact (sym c.is_err.ensures.value ∙ c.if-is_err.true))

pub returns-in-Err : goal.returns-in-Err
returns-in-Err c =
    names-unread c.args.number (record_in c.args.raw.now)
    (record-whole c.args.raw.now c.unfix.new.block c.unfix.result c.unfix.ensures.exact (sym c.is_err.ensures.value ∙ c.if-is_err.false) ∙ ap if_parsed (sym c.in-Err.ensures.exact))

pub returns-then-not-tells_own : goal.returns-then-not-tells_own
returns-then-not-tells_own c =
    ap not c.if-not-tells_own.true
    ∙ names-other c.args.number (record_in c.args.raw.now) c.in-Ok.view
    (record-whole c.args.raw.now c.unfix.new.block c.unfix.result c.unfix.ensures.exact (sym c.is_err.ensures.value ∙ c.if-is_err.false) ∙ ap if_parsed (sym c.in-Ok.ensures.exact))
    (ap (tells_own c.args.number) (sym c.number.ensures) ∙ sym c.tells_own.ensures ∙ c.if-not-tells_own.true)

pub returns-else-not-tells_own : goal.returns-else-not-tells_own
returns-else-not-tells_own c =
    names-own c.args.number (record_in c.args.raw.now) c.in-Ok.view c.has_names_between.result
    (record-whole c.args.raw.now c.unfix.new.block c.unfix.result c.unfix.ensures.exact (sym c.is_err.ensures.value ∙ c.if-is_err.false) ∙ ap if_parsed (sym c.in-Ok.ensures.exact))
    (ap (tells_own c.args.number) (sym c.number.ensures) ∙ sym c.tells_own.ensures ∙ c.if-not-tells_own.false) c.has_names_between.ensures
