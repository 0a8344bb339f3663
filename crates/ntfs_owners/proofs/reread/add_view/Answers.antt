use Rattle.std.proofs.Common.{ap, sym, ◌∙◌, ◌++◌, map}
use Rattle.std.proofs.lemmas.Result.{on_ok_weaker}
use Rattle.ntfs_record.specs.Slots.{tells_own}
use Rattle.ntfs_owners.specs.Held.{held_of, slot_held, wants_record, wants_runs}
use Rattle.ntfs_owners.proofs.HeldLemmas.{adds-none, by_own, held-other, held-own, held-unwanted}
use Rattle.ntfs_owners.proofs.reread.add_view.Goals as goal

pub returns-then-not-tells_own : goal.returns-then-not-tells_own
returns-then-not-tells_own c =
    let p = wants_record c.args.wanted.now in
    let q = wants_runs c.args.wanted.now in
    let file = c.args.view.now in
    adds-none (map held_of c.args.held.now.items) (slot_held p q c.args.number (by_own c.args.number file))
    (held-other p q c.args.number file (ap (tells_own c.args.number) (sym c.number.ensures) ∙ sym c.tells_own.ensures ∙ c.if-not-tells_own.true))

pub returns-then-not-wants_record : goal.returns-then-not-wants_record
returns-then-not-wants_record c =
    let p = wants_record c.args.wanted.now in
    let q = wants_runs c.args.wanted.now in
    let file = c.args.view.now in
    adds-none (map held_of c.args.held.now.items) (slot_held p q c.args.number (by_own c.args.number file))
    (held-unwanted p q c.args.number file (ap (tells_own c.args.number) (sym c.number.ensures) ∙ sym c.tells_own.ensures ∙ c.if-not-tells_own.false)
    (ap (p c.args.number) (sym c.base.ensures) ∙ sym c.wants_record.ensures ∙ c.if-not-wants_record.true))

pub returns : goal.returns
returns c =
    let p = wants_record c.args.wanted.now in
    let q = wants_runs c.args.wanted.now in
    let file = c.args.view.now in
    let own = held-own p q c.args.number file (ap (tells_own c.args.number) (sym c.number.ensures) ∙ sym c.tells_own.ensures ∙ c.if-not-tells_own.false)
    (ap (p c.args.number) (sym c.base.ensures) ∙ sym c.wants_record.ensures ∙ c.if-not-wants_record.false) in
    on_ok_weaker c.add_attributes.result (λ is. is ∙ ap (λ xs. map held_of c.args.held.now.items ++ xs) (sym own)) c.add_attributes.ensures
