use Rattle.std.proofs.Common.{ap, sym, ◌∙◌, ◌++◌, map, Some}
use Rattle.std.proofs.lemmas.Result.{on_ok_weaker}
use Rattle.ntfs_volume.specs.Located.{located_slot}
use Rattle.ntfs_owners.specs.Held.{held_of, slot_held, wants_record, wants_runs}
use Rattle.ntfs_owners.proofs.HeldLemmas.{adds-none, held-idle, held-live}
use Rattle.ntfs_owners.proofs.reread.add_record.Goals as goal

pub returns-then-not-is_in_use : goal.returns-then-not-is_in_use
returns-then-not-is_in_use c =
    let p = wants_record c.args.wanted.now in
    let q = wants_runs c.args.wanted.now in
    adds-none (map held_of c.args.held.now.items) (slot_held p q c.args.number (located_slot c.args.number (Some c.args.raw.now)))
    (held-idle p q c.args.number c.args.raw.now (sym c.is_in_use.ensures ∙ c.if-not-is_in_use.true))

pub returns : goal.returns
returns c =
    let live = held-live (wants_record c.args.wanted.now) (wants_runs c.args.wanted.now) c.args.number c.args.raw.now (sym c.is_in_use.ensures ∙ c.if-not-is_in_use.false) in
    on_ok_weaker c.add_live.result (λ is. is ∙ ap (λ xs. map held_of c.args.held.now.items ++ xs) (sym live)) c.add_live.ensures
