use Rattle.std.proofs.Common.{◌+◌, drop, map, arith}
use Rattle.std.proofs.lemmas.Result.{err_from_is_err_and}
use Rattle.ntfs_owners.specs.Held.{held_of}
use Rattle.ntfs_owners.specs.OwnerLines.{held_lines, run_lines}
use Rattle.ntfs_owners.proofs.LineLemmas.{held_lines-last, held_lines-next}
use Rattle.ntfs_print.proofs.PendingLemmas.{way-cut, way-end, way-next, way-start}
use Rattle.ntfs_owners.proofs.owner_lines.print_held.Goals as goal

pub held-init : goal.held-init
held-init g c = record {
  way = way-start (held_lines (map held_of c.args.held.now)) c.args.pending.now (g.K.Sink.seen c.args.out.now);
  puts = record { failures = omega arith; wants = omega arith };
}

pub returns-in_err-print_holding-clause-pushes : goal.returns-in_err-print_holding-clause-pushes
returns-in_err-print_holding-clause-pushes g c =
    let held = c.args.held.now in
    let i = c.held.holding-index in
    let x = held_of c.holding-item.result in
    let p = err_from_is_err_and c.from_residual.result c.from_residual.ensures.1 in
    rw p.1 (way-cut (held_lines (map held_of held)) (held_lines (map held_of (drop i held))) (run_lines x.text x.lowest x.runs) (held_lines (map held_of (drop (i + 1) held)))
    c.args.pending.now c.held.pending c.print_holding.new.pending c.print_holding.new.pending (g.K.Sink.seen c.args.out.now) (g.K.Sink.seen c.held.out) (g.K.Sink.seen c.print_holding.new.out) _ _
    (held_lines-next i held c.holding-item.result c.held-test.true c.holding-item.is) c.held.invariant.way c.in_err-print_holding.ensures.pushes)

pub held-preserved : goal.held-preserved
held-preserved g c =
    let held = c.args.held.now in
    let i = c.held.holding-index in
    let x = held_of c.holding-item.result in
    record {
      way = way-next (held_lines (map held_of held)) (held_lines (map held_of (drop i held))) (run_lines x.text x.lowest x.runs) (held_lines (map held_of (drop (i + 1) held)))
          c.args.pending.now c.held.pending c.print_holding.new.pending (g.K.Sink.seen c.args.out.now) (g.K.Sink.seen c.held.out) (g.K.Sink.seen c.print_holding.new.out) tt
          (held_lines-next i held c.holding-item.result c.held-test.true c.holding-item.is) c.held.invariant.way c.in_ok-print_holding.ensures.pushes;
      puts = record { failures = omega (arith, c.in_ok-print_holding.ensures.puts.puts.failures, c.held.invariant.puts.failures); wants = omega (arith, c.in_ok-print_holding.ensures.puts.puts.wants, c.held.invariant.puts.wants) };
    }

pub returns-clause-pushes : goal.returns-clause-pushes
returns-clause-pushes g c =
    way-end (held_lines (map held_of c.args.held.now)) (held_lines (map held_of (drop c.held.holding-index c.args.held.now))) c.args.pending.now c.held.pending
    (g.K.Sink.seen c.args.out.now) (g.K.Sink.seen c.held.out) tt (held_lines-last c.held.holding-index c.args.held.now c.held-test.false) c.held.invariant.way
