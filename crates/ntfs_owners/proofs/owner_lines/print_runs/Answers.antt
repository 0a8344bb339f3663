use Rattle.std.proofs.Common.{◌+◌, ◌++◌, drop, get_or, arith, refl}
use Rattle.std.proofs.lemmas.Result.{err_from_is_err_and}
use Rattle.ntfs_runs.proofs.CellsLemmas.{count-next, no_run}
use Rattle.ntfs_owners.specs.OwnerLines.{run_lines, run_numbers}
use Rattle.ntfs_owners.proofs.LineLemmas.{run_lines-last, run_lines-next}
use Rattle.ntfs_print.proofs.PendingLemmas.{way-cut, way-end, way-next, way-start}
use Rattle.ntfs_owners.proofs.owner_lines.print_runs.Goals as goal

pub runs-init : goal.runs-init
runs-init g c = record {
  vcn = refl;
  way = way-start (run_lines c.args.text.now c.args.lowest c.args.runs.now) c.args.pending.now (g.K.Sink.seen c.args.out.now);
  puts = record { failures = omega arith; wants = omega arith };
}

pub returns-in_err-print_run-clause-pushes : goal.returns-in_err-print_run-clause-pushes
returns-in_err-print_run-clause-pushes g c =
    let text = c.args.text.now in
    let runs = c.args.runs.now in
    let i = c.runs.run-index in
    let run = get_or runs i no_run in
    let p = err_from_is_err_and c.from_residual.result c.from_residual.ensures.1 in
    rw p.1 (way-cut (run_lines text c.args.lowest runs) (run_lines text c.runs.vcn (drop i runs)) (text ++ run_numbers c.runs.vcn run) (run_lines text (c.runs.vcn + run.length) (drop (i + 1) runs))
    c.args.pending.now c.runs.pending c.print_run.new.pending c.print_run.new.pending (g.K.Sink.seen c.args.out.now) (g.K.Sink.seen c.runs.out) (g.K.Sink.seen c.print_run.new.out) _ _
    (run_lines-next text c.runs.vcn i runs c.runs-test.true) c.runs.invariant.way c.in_err-print_run.ensures.pushes)

pub overflow_add-vcn : goal.overflow_add-vcn
overflow_add-vcn g c = omega (arith, count-next c.args.runs.now c.runs.run-index c.runs-test.true, c.runs.invariant.vcn, c.requires)

pub runs-preserved : goal.runs-preserved
runs-preserved g c =
    let text = c.args.text.now in
    let runs = c.args.runs.now in
    let i = c.runs.run-index in
    let run = get_or runs i no_run in
    record {
      vcn = omega (arith, count-next runs i c.runs-test.true, c.runs.invariant.vcn);
      way = way-next (run_lines text c.args.lowest runs) (run_lines text c.runs.vcn (drop i runs)) (text ++ run_numbers c.runs.vcn run) (run_lines text (c.runs.vcn + run.length) (drop (i + 1) runs))
          c.args.pending.now c.runs.pending c.print_run.new.pending (g.K.Sink.seen c.args.out.now) (g.K.Sink.seen c.runs.out) (g.K.Sink.seen c.print_run.new.out) tt
          (run_lines-next text c.runs.vcn i runs c.runs-test.true) c.runs.invariant.way c.in_ok-print_run.ensures.pushes;
      puts = record { failures = omega (arith, c.in_ok-print_run.ensures.puts.puts.failures, c.runs.invariant.puts.failures); wants = omega (arith, c.in_ok-print_run.ensures.puts.puts.wants, c.runs.invariant.puts.wants) };
    }

pub returns-clause-pushes : goal.returns-clause-pushes
returns-clause-pushes g c =
    way-end (run_lines c.args.text.now c.args.lowest c.args.runs.now) (run_lines c.args.text.now c.runs.vcn (drop c.runs.run-index c.args.runs.now)) c.args.pending.now c.runs.pending
    (g.K.Sink.seen c.args.out.now) (g.K.Sink.seen c.runs.out) tt (run_lines-last c.args.text.now c.runs.vcn c.runs.run-index c.args.runs.now c.runs-test.false) c.runs.invariant.way
