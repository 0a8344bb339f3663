use Rattle.std.proofs.Common.{◌++◌, [], List, ℕ, refl, sym, subst, map, Ok}
use Rattle.std.proofs.lemmas.List.{append-nil}
use Rattle.std.proofs.lemmas.Result.{err_from_is_err_and}
use Rattle.ntfs_base.specs.Frames.{PutsPrefix}
use Rattle.ntfs_base.proofs.FramesLemmas.{puts_none}
use Rattle.ntfs_print.specs.Fault.{show_origin}
use Rattle.ntfs_owners.specs.Held.{held_of}
use Rattle.ntfs_owners.specs.OwnerLines.{held_lines}
use Rattle.ntfs_print.specs.Pending.{IsPrinted}
use Rattle.ntfs_print.specs.Printing.{prints}
use Rattle.ntfs_print.specs.declared.fault.ShowFault.TheVariants as show
use Rattle.ntfs_owners.proofs.FileLemmas.{puts-cut, sink-cuts}
use Rattle.ntfs_print.proofs.PendingLemmas.{printed-end-cut, prints-end, prints-puts}
use Rattle.ntfs_owners.proofs.file_runs.put_held.Goals as goal

pub returns-in_err-pending-clause-puts : goal.returns-in_err-pending-clause-puts
returns-in_err-pending-clause-puts g c =
    let p = err_from_is_err_and c.from_residual.result c.from_residual.ensures.1 in
    rw (p.1, p.2) (puts_none show_origin _ show.NoMemory (g.K.Sink.seen c.args.out.now) (λ settled. absurd settled))

pub returns-in_err-print_held-clause-puts : goal.returns-in_err-print_held-clause-puts
returns-in_err-print_held-clause-puts g c =
    let bytes = held_lines (map held_of c.args.held.now) in
    let p = err_from_is_err_and c.from_residual-in_err-print_held.result c.from_residual-in_err-print_held.ensures.1 in
    rw (p.1, p.2) (puts-cut bytes (g.K.Sink.seen c.args.out.now) (g.K.Sink.seen c.print_held.new.out) _ (sink-cuts c.in_err-print_held.field-0.0)
    (subst (λ (waiting : List ℕ). PutsPrefix (waiting ++ bytes) (g.K.Sink.seen c.args.out.now) (g.K.Sink.seen c.print_held.new.out)) c.in_ok-pending.ensures c.in_err-print_held.ensures.pushes.part))

pub returns-in_err-put_rest-clause-puts : goal.returns-in_err-put_rest-clause-puts
returns-in_err-put_rest-clause-puts g c =
    let bytes = held_lines (map held_of c.args.held.now) in
    let so_far = subst (λ (waiting : List ℕ). IsPrinted (waiting ++ bytes) (g.K.Sink.seen c.args.out.now) c.print_held.new.pending (g.K.Sink.seen c.print_held.new.out)) c.in_ok-pending.ensures c.in_ok-print_held.ensures.pushes.whole in
    let p = err_from_is_err_and c.from_residual-in_err-put_rest.result c.from_residual-in_err-put_rest.ensures.1 in
    rw (p.1, p.2) (puts-cut bytes (g.K.Sink.seen c.args.out.now) (g.K.Sink.seen c.put_rest.new.out) _ (sink-cuts c.in_err-put_rest.field-0.0)
    (printed-end-cut bytes bytes [] c.print_held.new.pending (g.K.Sink.seen c.args.out.now) (g.K.Sink.seen c.print_held.new.out) (g.K.Sink.seen c.put_rest.new.out) (sym (append-nil bytes)) so_far c.in_err-put_rest.ensures.put.part))

pub returns-clause-puts : goal.returns-clause-puts
returns-clause-puts g c =
    let bytes = held_lines (map held_of c.args.held.now) in
    let so_far = subst (λ (waiting : List ℕ). IsPrinted (waiting ++ bytes) (g.K.Sink.seen c.args.out.now) c.print_held.new.pending (g.K.Sink.seen c.print_held.new.out)) c.in_ok-pending.ensures c.in_ok-print_held.ensures.pushes.whole in
    prints-puts show_origin (Ok bytes) (g.K.Sink.seen c.args.out.now) (Ok tt) (g.K.Sink.seen c.put_rest.new.out)
    (prints-end show_origin (prints bytes) bytes c.print_held.new.pending (g.K.Sink.seen c.args.out.now) (g.K.Sink.seen c.print_held.new.out) (g.K.Sink.seen c.put_rest.new.out) (Ok tt) refl so_far c.in_ok-put_rest.ensures.put.whole refl)
