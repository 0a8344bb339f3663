use Rattle.std.proofs.Common.{ap, sym, ◌∙◌, ◌++◌, map}
use Rattle.std.proofs.lemmas.Result.{on_ok_weaker}
use Rattle.ntfs_record.specs.Views.{shown_body, shown_view}
use Rattle.ntfs_record.specs.declared.attribute.Body.{Body}
use Rattle.ntfs_owners.specs.Held.{held_of, pairs_held, shown_held, wants_runs}
use Rattle.ntfs_owners.proofs.HeldLemmas.{adds-none, held-resident, held-runs}
use Rattle.ntfs_owners.proofs.held.add_attribute.Goals as goal

pub returns-in-Resident : goal.returns-in-Resident
returns-in-Resident c =
    adds-none (map held_of c.args.held.now.items) (shown_held (wants_runs c.args.wanted.now) c.args.number (shown_view c.args.attribute.now))
    (held-resident (wants_runs c.args.wanted.now) c.args.number (shown_view c.args.attribute.now) (ap (λ (b : Body). (shown_body b).is_resident) c.in-Resident.is))

pub returns-in-Runs : goal.returns-in-Runs
returns-in-Runs c =
    let body = c.in-Runs.is in
    let q = wants_runs c.args.wanted.now in
    let r = c.args.number in
    let a = c.args.attribute.now in
    let runs = held-runs q r (shown_view a) (ap (λ (b : Body). (shown_body b).is_resident) body) in
    let same = ap (λ (b : Body). pairs_held q r a.kind a.name.now (shown_body b).lowest (shown_body b).pairs) body in
    on_ok_weaker c.add_pairs.result (λ is. is ∙ ap (λ xs. map held_of c.args.held.now.items ++ xs) (sym (runs ∙ same))) c.add_pairs.ensures
