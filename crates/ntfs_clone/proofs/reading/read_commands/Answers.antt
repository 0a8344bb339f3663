use Rattle.std.proofs.Common.{◌≤◌, ◌++◌, List, [], ℕ, length, sym, ap, ◌∙◌, subst, arith, Option, drop}
use Rattle.std.specs.Prelude.{IfSome}
use Rattle.ntfs_base.proofs.FramesLemmas.{gives_same}
use Rattle.ntfs_clone.specs.Fault.{clone_origin}
use Rattle.ntfs_clone.specs.Reading.{IsAllowed, IsBehind, found_length, waiting}
use Rattle.ntfs_clone.specs.declared.command.Next.{Next}
use Rattle.ntfs_clone.specs.Taking.{to_come}
use Rattle.ntfs_clone.proofs.TakingLemmas.{given-none, given-then, told-kept}
use Rattle.ntfs_clone.proofs.ReadingLemmas.{behind-start, read-step, read-end}
use Rattle.ntfs_clone.proofs.reading.read_commands.Goals as goal

pub commands-init : goal.commands-init
commands-init g c =
    let p = c.new-progress in
    let all = to_come (g.I.Source.seen c.args.source.now) in
    record {
      size = c.in_ok-input.ensures.size;
      fits = p.ensures.fits;
      kept = given-none _;
      faults = omega arith;
      read = λ told. record {
        read = [];
        behind = subst (λ (xs : List ℕ). IsBehind c.args.header.now all [] p.result (xs ++ all)) (sym c.in_ok-input.ensures.waiting)
            (behind-start c.args.header.now all p.result p.ensures.room p.ensures.after_empty p.ensures.place);
      };
    }

pub returns-in_err-command-clause-kept : goal.returns-in_err-command-clause-kept
returns-in_err-command-clause-kept g c = given-then _ _ _ c.commands.invariant.kept c.next.ensures.kept

pub commands-preserved : goal.commands-preserved
commands-preserved g c =
    let before = c.commands.invariant in
    let found = c.in_ok-command.ensures in
    record {
      size = c.pass.ensures.size ∙ found.size ∙ before.size;
      fits = c.behind-progress.ensures.fits;
      kept = given-then _ _ _ before.kept c.next.ensures.kept;
      faults = omega (arith, before.faults, found.takes.counts);
      read = λ told.
          let now = told-kept _ _ before.kept told in
          read-step c.args.header.now (to_come (g.I.Source.seen c.args.source.now)) c.commands.progress c.behind-progress.result _
          (waiting c.next.new.input) (to_come (g.I.Source.seen c.next.new.source)) (waiting c.pass.new.self) c.in_ok-command.field-0 c.in-Some.command
          (before.read told) (found.unread now) (found.exact now) c.in-Some.is
          (subst (λ (o : Option Next). IfSome o (IsAllowed c.commands.progress.room c.commands.progress.after_empty)) c.in-Some.is found.allowed)
          (subst (λ (o : Option Next). IfSome o (λ command. found_length c.args.header.now.cluster command ≤ length (waiting c.next.new.input))) c.in-Some.is found.whole)
          (c.behind-progress.ensures.room (waiting c.next.new.input)) (c.behind-progress.ensures.after_empty (waiting c.next.new.input)) c.behind-progress.ensures.place
          (c.pass.ensures.waiting ∙ ap (λ n. drop n (waiting c.next.new.input)) c.length.ensures);
    }

pub returns-clause-kept : goal.returns-clause-kept
returns-clause-kept g c = given-then _ _ _ c.commands.invariant.kept c.next.ensures.kept

pub returns-clause-gives : goal.returns-clause-gives
returns-clause-gives g c told =
    let before = c.commands.invariant in
    let found = c.in_ok-command.ensures in
    let now = told-kept _ _ before.kept told in
    gives_same clone_origin _ _
    (read-end c.args.header.now (to_come (g.I.Source.seen c.args.source.now)) c.commands.progress _ (waiting c.next.new.input) (to_come (g.I.Source.seen c.next.new.source))
    c.in_ok-command.field-0 c.end.result (before.read told) (found.unread now) (found.enough now) (found.exact now) c.in_default.is c.end.ensures)
