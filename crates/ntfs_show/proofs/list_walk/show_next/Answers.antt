use Rattle.std.proofs.Common.{List, ℕ, IsTrue, ap, sym, ◌∙◌}
use Rattle.std.proofs.lemmas.Result.{err_from_is_err_and}
use Rattle.ntfs_directory.specs.State.{entry_before, left_of}
use Rattle.ntfs_index.specs.Node.{IndexEntry}
use Rattle.ntfs_show.proofs.ListStateLemmas.{gather-settled, next-ended, next-printed, next-refused, next-stopped}
use Rattle.ntfs_show.proofs.list_walk.show_next.Goals as goal

pub returns-in-Err-clause-lists : goal.returns-in-Err-clause-lists
returns-in-Err-clause-lists g c =
    let walked = c.requires.walked in
    let seen = g.G.Image.seen c.args.image.now in
    rw c.gather_refusal.ensures
    (next-refused (IsTrue seen.is_told) c.args.desk.now.options c.args.table.now seen.content c.args.front.now
    c.args.number c.args.met.now.keys c.args.directory.now c.next.new.self c.in-Err.fault c.args.desk.now.pending _
    walked.bears
    (λ told settled. c.in-Err.ensures.told walked.sound told (gather-settled c.args.number c.in-Err.fault settled)))

pub returns-in-Ok-None-clause-lists : goal.returns-in-Ok-None-clause-lists
returns-in-Ok-None-clause-lists g c =
    let walked = c.requires.walked in
    let seen = g.G.Image.seen c.args.image.now in
    let turn = rw c.in-Ok-None.field-0-is at c.in-Ok-None.ensures.told in
    next-ended (IsTrue seen.is_told) c.args.desk.now.options c.args.table.now seen.content c.args.front.now
    c.args.number c.args.met.now.keys c.args.directory.now c.next.new.self c.args.desk.now.pending _
    (λ told. (turn walked.sound told).0)

pub returns-in_ok-below-in-Ok-Some-clause-lists : goal.returns-in_ok-below-in-Ok-Some-clause-lists
returns-in_ok-below-in-Ok-Some-clause-lists g c =
    let walked = c.requires.walked in
    let gave = c.in-Ok-Some.ensures in
    let turn = rw c.in-Ok-Some.field-0-is at gave.told in
    let still = gave.same.number ∙ walked.bears in
    let entry : IndexEntry = record { reference = c.in-Ok-Some.entry.reference; key = c.key.result.now } in
    let seen = g.G.Image.seen c.args.image.now in
    let same = (gave.reads walked.sound).seen in
    next-printed (IsTrue seen.is_told) c.args.desk.now.options c.args.table.now seen.content c.args.front.now
    c.args.number c.args.met.now.keys c.args.directory.now c.next.new.self entry c.in_ok-below-in-Ok-Some.below
    c.args.desk.now.pending _ c.show_given.new.desk.pending _ walked.bears still (sym c.key.ensures)
    (λ told. turn walked.sound told ∙ ap (λ (k : List ℕ). entry_before (record {
      reference =
          c.in-Ok-Some.entry.reference;
      key = k;
    }) (left_of c.args.table.now.geometry seen.content c.next.new.self))
    (sym c.key.ensures))
    (rw same at c.in_ok-below-in-Ok-Some.ensures.lists)

pub returns-in_err-below-in-Ok-Some-clause-lists : goal.returns-in_err-below-in-Ok-Some-clause-lists
returns-in_err-below-in-Ok-Some-clause-lists g c =
    let walked = c.requires.walked in
    let gave = c.in-Ok-Some.ensures in
    let turn = rw c.in-Ok-Some.field-0-is at gave.told in
    let still = gave.same.number ∙ walked.bears in
    let entry : IndexEntry = record { reference = c.in-Ok-Some.entry.reference; key = c.key.result.now } in
    let seen = g.G.Image.seen c.args.image.now in
    let same = (gave.reads walked.sound).seen in
    let p = err_from_is_err_and c.from_residual.result c.from_residual.ensures.1 in
    rw (p.1, p.2)
    (next-stopped (IsTrue seen.is_told) c.args.desk.now.options c.args.table.now seen.content c.args.front.now
    c.args.number c.args.met.now.keys c.args.directory.now c.next.new.self entry
    c.in_err-below-in-Ok-Some.field-0.0 c.args.desk.now.pending _ c.show_given.new.desk.pending _ walked.bears still
    (λ told. turn walked.sound told ∙ ap (λ (k : List ℕ). entry_before (record {
      reference =
          c.in-Ok-Some.entry.reference;
      key = k;
    }) (left_of c.args.table.now.geometry seen.content c.next.new.self))
    (sym c.key.ensures))
    (rw same at c.in_err-below-in-Ok-Some.ensures.lists))
