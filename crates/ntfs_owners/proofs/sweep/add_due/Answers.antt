use Rattle.std.proofs.Common.{◌+◌, ◌++◌, ◌∷◌, [], refl, sym, ap, ◌∙◌, drop}
use Rattle.ntfs_owners.proofs.SweepLemmas.{swept-move}
use Rattle.ntfs_owners.proofs.TurnLemmas.{drop-tail, due-some, swept-by}
use Rattle.ntfs_owners.proofs.sweep.add_due.Goals as goal

pub due-preserved : goal.due-preserved
due-preserved c first end m before =
    let at = c.args.at in
    let waiting = drop c.due.next c.args.starts.now in
    let due = due-some at c.in-Some.row waiting (sym c.due_row.ensures ∙ c.in-Some.is) in
    let s = due.0 in
    let rest = due.1 in
    let moved = swept-move first end m at c.due.active.items s rest due.3 (swept-by first end m at c.due.active.items c.due.active.items waiting (s ∷ rest) refl due.2 (c.due.invariant first end m before)) in
    swept-by first end m at (c.due.active.items ++ s.1 ∷ []) c.push.new.self.items rest (drop (c.due.next + 1) c.args.starts.now)
    (ap (λ row. c.due.active.items ++ row ∷ []) due.4 ∙ sym c.in_ok-push.ensures.items) (sym (drop-tail c.args.starts.now c.due.next s rest due.2)) moved
