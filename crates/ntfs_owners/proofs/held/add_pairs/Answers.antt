use Rattle.std.proofs.Common.{ap, sym, ◌∙◌, map}
use Rattle.ntfs_owners.specs.Held.{held_of, pairs_held, wants_runs}
use Rattle.ntfs_owners.proofs.HeldLemmas.{adds-none, held-push, pairs-unwanted, pairs-wanted}
use Rattle.ntfs_owners.proofs.held.add_pairs.Goals as goal

pub returns-then-not-wants_runs : goal.returns-then-not-wants_runs
returns-then-not-wants_runs c =
    let q = wants_runs c.args.wanted.now in
    let a = c.args.attribute.now in
    adds-none (map held_of c.args.held.now.items) (pairs_held q c.args.number a.kind a.name.now c.args.lowest c.args.pairs.now)
    (pairs-unwanted q c.args.number a.kind a.name.now c.args.lowest c.args.pairs.now c.in_ok-runs.runs c.in_ok-runs.ensures.runs
    (ap q (sym c.runs-2.ensures) ∙ sym c.wants_runs.ensures ∙ c.if-not-wants_runs.true))

pub returns : goal.returns
returns c =
    let q = wants_runs c.args.wanted.now in
    let a = c.args.attribute.now in
    held-push c.args.held.now.items c.push.new.self.items _ (pairs_held q c.args.number a.kind a.name.now c.args.lowest c.args.pairs.now) c.in_ok-push.ensures.items
    (pairs-wanted q c.args.number a.kind a.name.now c.args.lowest c.args.pairs.now c.in_ok-runs.runs _ c.in_ok-runs.ensures.runs
    (ap q (sym c.runs-2.ensures) ∙ sym c.wants_runs.ensures ∙ c.if-not-wants_runs.false) c.in_ok-text.ensures)
