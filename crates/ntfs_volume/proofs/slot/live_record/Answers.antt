use Rattle.std.proofs.Common.{sym, ap, ◌∙◌}
use Rattle.ntfs_record.specs.Slots.{if_parsed}
use Rattle.ntfs_record.proofs.SlotLemmas.{record-torn, record-whole}
use Rattle.ntfs_volume.proofs.FoundLemmas.{live-is, live-not}
use Rattle.ntfs_volume.proofs.slot.live_record.Goals as goal

pub returns-then-not-is_in_use : goal.returns-then-not-is_in_use
returns-then-not-is_in_use c = sym (live-not c.args.raw.now (sym c.is_in_use.ensures ∙ c.if-not-is_in_use.true))

pub returns-then-is_err : goal.returns-then-is_err
returns-then-is_err c =
    let torn = record-torn c.args.raw.now c.unfix.new.block c.unfix.result c.unfix.ensures.exact (sym c.is_err.ensures.value ∙ c.if-is_err.true) in
    sym (live-is c.args.raw.now _ (sym c.is_in_use.ensures ∙ c.if-not-is_in_use.false) torn)

pub returns-in-Err : goal.returns-in-Err
returns-in-Err c =
    let whole = record-whole c.args.raw.now c.unfix.new.block c.unfix.result c.unfix.ensures.exact (sym c.is_err.ensures.value ∙ c.if-is_err.false) in
    sym (live-is c.args.raw.now _ (sym c.is_in_use.ensures ∙ c.if-not-is_in_use.false) (whole ∙ ap if_parsed (sym c.in-Err.ensures.exact)))

pub returns-in-Ok : goal.returns-in-Ok
returns-in-Ok c =
    let whole = record-whole c.args.raw.now c.unfix.new.block c.unfix.result c.unfix.ensures.exact (sym c.is_err.ensures.value ∙ c.if-is_err.false) in
    sym (live-is c.args.raw.now _ (sym c.is_in_use.ensures ∙ c.if-not-is_in_use.false) (whole ∙ ap if_parsed (sym c.in-Ok.ensures.exact)))
