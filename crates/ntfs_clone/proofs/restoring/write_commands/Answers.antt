use Rattle.std.proofs.Common.{◌≡◌, ◌≤◌, ◌*◌, ◌++◌, ◌∷◌, List, [], ℕ, length, drop, sym, ap, ◌∙◌, subst, arith, nat_eq, Option, Ok, Err}
use Rattle.std.specs.Prelude.{IfSome}
use Rattle.std.proofs.lemmas.Result.{err_from_is_err_and}
use Rattle.ntfs_base.specs.Frames.{IsSettled}
use Rattle.ntfs_clone.specs.Commands.{covered, right_commands}
use Rattle.ntfs_clone.specs.Fault.{clone_origin}
use Rattle.ntfs_clone.specs.Reading.{IsAllowed, IsBehind, command_found, found_length, waiting}
use Rattle.ntfs_clone.specs.Restored.{laid_out}
use Rattle.ntfs_clone.specs.Taking.{to_come}
use Rattle.ntfs_clone.specs.Writing.{IsHeld, Reaches}
use Rattle.ntfs_clone.specs.declared.command.Next.{Next}
use Rattle.ntfs_clone.specs.declared.fault.CloneFault.{CloneFault}
use Rattle.ntfs_clone.proofs.TakingLemmas.{given-none, given-then, told-kept}
use Rattle.ntfs_clone.proofs.ReadingLemmas.{before-tail, behind-next, behind-start, read-all, read-end}
use Rattle.ntfs_clone.proofs.WritingLemmas.{front-of, held-front, held-laid, held-start, same-file, same-then, write-unsettled, written-cut, written-whole}
use Rattle.ntfs_clone.proofs.restoring.write_commands.Goals as goal

pub commands-init : goal.commands-init
commands-init g c =
    let h = c.args.header.now in
    let p = c.new-progress in
    let all = to_come (g.I.Source.seen c.args.source.now) in
    record {
      size = c.in_ok-input.ensures.size;
      fits = p.ensures.fits;
      reaches = record {
        sum = let r = ap (λ n. n * h.cluster) p.ensures.room in let e = ap length c.in_ok-row.ensures.bytes in omega (arith, r, e, c.in_ok-row.ensures.place);
        whole = λ some. let e = ap length c.in_ok-row.ensures.bytes in absurd (omega (arith, e, some));
      };
      kept = given-none _;
      same = same-file _;
      faults = omega arith;
      counts = record { reads = omega arith; writes = omega arith };
      put = λ told. record {
        reading = record {
          read = [];
          behind = subst (λ (xs : List ℕ). IsBehind h all [] p.result (xs ++ all)) (sym c.in_ok-input.ensures.waiting)
              (behind-start h all p.result p.ensures.room p.ensures.after_empty p.ensures.place);
        };
        held = λ told_target. held-start h c.in_ok-row.row _ c.in_ok-row.ensures.bytes c.in_ok-row.ensures.place (c.requires.empty told_target);
      };
    }

pub returns-in_err-command-clause-written : goal.returns-in_err-command-clause-written
returns-in_err-command-clause-written g c told told_target =
    let h = c.args.header.now in
    let p = err_from_is_err_and c.from_residual-in_err-command.result c.from_residual-in_err-command.ensures.1 in
    let before = c.commands.invariant.put told in
    let held = before.held (c.commands.invariant.same.same.told ∙ told_target) in
    rw (p.1, p.2) (written-cut h (to_come (g.I.Source.seen c.args.source.now)) _ _ (λ settled. subst (λ (f : CloneFault). IsSettled (clone_origin f)) c.in_err-command.ensures.fails settled)
    (front-of h _ before.reading.read _ _ before.reading.behind.parts (held-front h before.reading.read c.commands.row _ held)))

pub returns-in_err-command-clause-kept : goal.returns-in_err-command-clause-kept
returns-in_err-command-clause-kept g c = given-then _ _ _ c.commands.invariant.kept c.next.ensures.kept

pub returns-in_err-put-clause-written : goal.returns-in_err-put-clause-written
returns-in_err-put-clause-written g c told told_target =
    let h = c.args.header.now in
    let p = err_from_is_err_and c.from_residual-in_err-put.result c.from_residual-in_err-put.ensures.1 in
    let before = c.commands.invariant.put told in
    let tells = c.commands.invariant.same.same.told ∙ told_target in
    rw (p.1, p.2) (written-cut h (to_come (g.I.Source.seen c.args.source.now)) _ _ (write-unsettled _ c.in_err-put.ensures.fails)
    (front-of h _ before.reading.read _ _ before.reading.behind.parts (c.in_err-put.ensures.front before.reading.read tells (before.held tells))))

pub returns-in_err-put-clause-kept : goal.returns-in_err-put-clause-kept
returns-in_err-put-clause-kept g c = given-then _ _ _ c.commands.invariant.kept c.next.ensures.kept

pub commands-preserved : goal.commands-preserved
commands-preserved g c =
    let h = c.args.header.now in
    let before = c.commands.invariant in
    let found = c.in_ok-command.ensures in
    let done = c.in_ok-put.ensures in
    let command = c.in-Some.command in
    let here = waiting c.next.new.input in
    record {
      size = c.pass.ensures.size ∙ found.size ∙ before.size;
      fits = c.behind-progress.ensures.fits;
      reaches = subst (λ (n : ℕ). Reaches h n c.put.new.row) (sym (c.behind-progress.ensures.room c.waiting.result.now)) done.reaches;
      kept = given-then _ _ _ before.kept c.next.ensures.kept;
      same = same-then _ _ _ before.same done.same;
      faults = omega (arith, before.faults, found.takes.counts);
      counts = record { reads = omega (arith, before.counts.reads, done.writes.counts.reads); writes = omega (arith, before.counts.writes, done.writes.counts.writes) };
      put = λ told.
          let now = told-kept _ _ before.kept told in
          let read = (before.put told).reading.read in
          record {
            reading = record {
              read = read ++ command_found h.cluster here command ∷ [];
              behind = behind-next h (to_come (g.I.Source.seen c.args.source.now)) read c.commands.progress c.behind-progress.result _
                  here (to_come (g.I.Source.seen c.next.new.source)) (waiting c.pass.new.self) c.in_ok-command.field-0 command
                  (before.put told).reading.behind (found.unread now) (found.exact now) c.in-Some.is
                  (subst (λ (o : Option Next). IfSome o (IsAllowed c.commands.progress.room c.commands.progress.after_empty)) c.in-Some.is found.allowed)
                  (subst (λ (o : Option Next). IfSome o (λ command. found_length h.cluster command ≤ length here)) c.in-Some.is found.whole)
                  (c.behind-progress.ensures.room here) (c.behind-progress.ensures.after_empty here) c.behind-progress.ensures.place
                  (c.pass.ensures.waiting ∙ ap (λ n. drop n here) c.length.ensures);
            };
            held = λ told_target.
                let tells = sym done.same.same.told ∙ told_target in
                subst (λ (bytes : List ℕ). IsHeld h (read ++ command_found h.cluster bytes command ∷ []) c.put.new.row (g.F.Image.seen c.put.new.target).content) c.waiting.ensures
                (done.held read tells ((before.put told).held tells));
          };
    }

pub returns-in_err-flush-clause-written : goal.returns-in_err-flush-clause-written
returns-in_err-flush-clause-written g c told told_target =
    let h = c.args.header.now in
    let p = err_from_is_err_and c.from_residual-in_err-flush.result c.from_residual-in_err-flush.ensures.1 in
    let before = c.commands.invariant.put told in
    let tells = c.commands.invariant.same.same.told ∙ told_target in
    rw (p.1, p.2) (written-cut h (to_come (g.I.Source.seen c.args.source.now)) _ _ (write-unsettled _ c.in_err-flush.ensures.fails)
    (front-of h _ before.reading.read _ _ before.reading.behind.parts (c.in_err-flush.ensures.front before.reading.read tells (before.held tells))))

pub returns-in_err-flush-clause-kept : goal.returns-in_err-flush-clause-kept
returns-in_err-flush-clause-kept g c = given-then _ _ _ c.commands.invariant.kept c.next.ensures.kept

pub returns-in_err-end-clause-gives : goal.returns-in_err-end-clause-gives
returns-in_err-end-clause-gives g c told =
    let p = err_from_is_err_and c.from_residual-in_err-end.result c.from_residual-in_err-end.ensures.1 in
    let before = c.commands.invariant in
    let found = c.in_ok-command.ensures in
    let now = told-kept _ _ before.kept told in
    rw (p.1, p.2) (λ settled.
    read-end c.args.header.now (to_come (g.I.Source.seen c.args.source.now)) c.commands.progress _ (waiting c.next.new.input) (to_come (g.I.Source.seen c.next.new.source))
    c.in_ok-command.field-0 (Err c.in_err-end.field-0.0) (before.put told).reading (found.unread now) (found.enough now) (found.exact now) c.in_default.is c.in_err-end.ensures)

pub returns-in_err-end-clause-written : goal.returns-in_err-end-clause-written
returns-in_err-end-clause-written g c told told_target =
    let h = c.args.header.now in
    let all = to_come (g.I.Source.seen c.args.source.now) in
    let p = err_from_is_err_and c.from_residual-in_err-end.result c.from_residual-in_err-end.ensures.1 in
    let before = c.commands.invariant.put told in
    let found = c.in_ok-command.ensures in
    let now = told-kept _ _ c.commands.invariant.kept told in
    let tells = c.commands.invariant.same.same.told ∙ told_target in
    let read = before.reading.read in
    let whole : right_commands h all ≡ read =
    read-all h all read c.commands.progress _ (waiting c.next.new.input) (to_come (g.I.Source.seen c.next.new.source)) c.in_ok-command.field-0 before.reading.behind (found.unread now) (found.exact now) c.in_default.is in
    rw (p.1, p.2) (written-whole h all _ _
    (held-laid h read c.flush.new.row _ (c.in_ok-flush.ensures.held read tells (before.held tells)) c.in_ok-flush.ensures.empty ∙ ap (laid_out h) (sym whole)))

pub returns-in_err-end-clause-kept : goal.returns-in_err-end-clause-kept
returns-in_err-end-clause-kept g c = given-then _ _ _ c.commands.invariant.kept c.next.ensures.kept

pub returns-clause-gives : goal.returns-clause-gives
returns-clause-gives g c told =
    let before = c.commands.invariant in
    let found = c.in_ok-command.ensures in
    let now = told-kept _ _ before.kept told in
    read-end c.args.header.now (to_come (g.I.Source.seen c.args.source.now)) c.commands.progress _ (waiting c.next.new.input) (to_come (g.I.Source.seen c.next.new.source))
    c.in_ok-command.field-0 (Ok tt) (before.put told).reading (found.unread now) (found.enough now) (found.exact now) c.in_default.is c.in_ok-end.ensures

pub returns-clause-written : goal.returns-clause-written
returns-clause-written g c told told_target =
    let h = c.args.header.now in
    let all = to_come (g.I.Source.seen c.args.source.now) in
    let before = c.commands.invariant.put told in
    let found = c.in_ok-command.ensures in
    let now = told-kept _ _ c.commands.invariant.kept told in
    let tells = c.commands.invariant.same.same.told ∙ told_target in
    let read = before.reading.read in
    let whole : right_commands h all ≡ read =
    read-all h all read c.commands.progress _ (waiting c.next.new.input) (to_come (g.I.Source.seen c.next.new.source)) c.in_ok-command.field-0 before.reading.behind (found.unread now) (found.exact now) c.in_default.is in (
      held-laid h read c.flush.new.row _ (c.in_ok-flush.ensures.held read tells (before.held tells)) c.in_ok-flush.ensures.empty ∙ ap (laid_out h) (sym whole),
      before-tail h all read c.commands.progress _ before.reading.behind ∙ ap (λ xs. nat_eq (covered xs) h.clusters) (sym whole),
    )

pub returns-clause-kept : goal.returns-clause-kept
returns-clause-kept g c = given-then _ _ _ c.commands.invariant.kept c.next.ensures.kept
