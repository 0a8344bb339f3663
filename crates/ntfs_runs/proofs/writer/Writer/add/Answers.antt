use Rattle.std.proofs.Common.{◌∙◌, sym}
use Rattle.ntfs_runs.proofs.WriterLemmas.{waits-first, waits-joined, waits-put, waits-full}
use Rattle.ntfs_runs.proofs.writer.Writer.add.Goals as goal

pub returns-in_default-clause-added : goal.returns-in_default-clause-added
returns-in_default-clause-added c = waits-first c.args.self.now c.args.into.now c.args.run c.requires.sound c.requires.small c.in_default.is

pub returns-then-is_adjacent-clause-added : goal.returns-then-is_adjacent-clause-added
returns-then-is_adjacent-clause-added c =
    waits-joined c.args.self.now c.args.into.now c.in-Some.pending c.args.run c.requires.sound c.requires.small c.requires.together c.in-Some.is (sym c.is_adjacent.ensures ∙ c.if-is_adjacent.true)

pub returns-in_err-self-clause-full : goal.returns-in_err-self-clause-full
returns-in_err-self-clause-full c =
    rw c.from_residual.ensures
    (waits-full c.args.self.now c.args.into.now c.in-Some.pending c.args.run c.requires.sound c.in-Some.is (sym c.is_adjacent.ensures ∙ c.if-is_adjacent.false) c.in_err-self.ensures.place)

pub returns-clause-added : goal.returns-clause-added
returns-clause-added c =
    let place = c.in_ok-self.ensures.place in
    rw (place.1, c.unwrap_or-self.ensures, c.in_ok-self.ensures.written)
    (waits-put c.args.self.now c.args.into.now c.in-Some.pending c.args.run c.requires.sound c.requires.small c.in-Some.is (sym c.is_adjacent.ensures ∙ c.if-is_adjacent.false) place.0)
