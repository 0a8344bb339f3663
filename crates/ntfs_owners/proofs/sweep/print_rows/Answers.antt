use Rattle.std.proofs.Common.{◌+◌, ◌++◌, ◌∙◌, ap, drop, get_or, map, arith}
use Rattle.std.proofs.lemmas.List.{length-map}
use Rattle.std.proofs.lemmas.Result.{err_from_is_err_and}
use Rattle.ntfs_owners.specs.Sweep.{Span, line_in, rows_cluster, row_span}
use Rattle.ntfs_print.proofs.PendingLemmas.{way-cut, way-end, way-next, way-start}
use Rattle.ntfs_owners.proofs.SpanLemmas.{rows-last, rows-next}
use Rattle.ntfs_owners.proofs.StartLemmas.{span-at}
use Rattle.ntfs_owners.proofs.sweep.print_rows.Goals as goal

pub active-init : goal.active-init
active-init g c = record {
  way = way-start (rows_cluster c.args.cluster (map row_span c.args.rows.now) c.args.active.now) c.args.pending.now (g.K.Sink.seen c.args.out.now);
  puts = record { failures = omega arith; wants = omega arith };
}

pub returns-clause-pushes : goal.returns-clause-pushes
returns-clause-pushes g c =
    let spans = map row_span c.args.rows.now in
    way-end (rows_cluster c.args.cluster spans c.args.active.now) (rows_cluster c.args.cluster spans (drop c.active.number-index c.args.active.now)) c.args.pending.now c.active.pending
    (g.K.Sink.seen c.args.out.now) (g.K.Sink.seen c.active.out) tt (rows-last c.args.cluster c.active.number-index spans c.args.active.now c.active-test.false) c.active.invariant.way

pub returns-in_err-print_cluster-clause-pushes : goal.returns-in_err-print_cluster-clause-pushes
returns-in_err-print_cluster-clause-pushes g c =
    let rows = c.args.rows.now in
    let spans = map row_span rows in
    let active = c.args.active.now in
    let i = c.active.number-index in
    let k = c.args.cluster in
    let x = c.index-rows-number.result in
    let there = (c.requires i 0 c.active-test.true).there in
    let long = length-map rows row_span in
    let line = rows-next k i spans active c.active-test.true ∙ ap (λ (s : Span). line_in k s ++ rows_cluster k spans (drop (i + 1) active)) (span-at rows (get_or active i 0) x (omega (arith, long, there)) c.index-rows-number.is) in
    let p = err_from_is_err_and c.from_residual.result c.from_residual.ensures.1 in
    rw p.1 (way-cut (rows_cluster k spans active) (rows_cluster k spans (drop i active)) (line_in k (row_span x)) (rows_cluster k spans (drop (i + 1) active))
    c.args.pending.now c.active.pending c.print_cluster.new.pending c.print_cluster.new.pending (g.K.Sink.seen c.args.out.now) (g.K.Sink.seen c.active.out) (g.K.Sink.seen c.print_cluster.new.out) _ _
    line c.active.invariant.way c.in_err-print_cluster.ensures.pushes)

pub active-preserved : goal.active-preserved
active-preserved g c =
    let rows = c.args.rows.now in
    let spans = map row_span rows in
    let active = c.args.active.now in
    let i = c.active.number-index in
    let k = c.args.cluster in
    let x = c.index-rows-number.result in
    let there = (c.requires i 0 c.active-test.true).there in
    let long = length-map rows row_span in
    let line = rows-next k i spans active c.active-test.true ∙ ap (λ (s : Span). line_in k s ++ rows_cluster k spans (drop (i + 1) active)) (span-at rows (get_or active i 0) x (omega (arith, long, there)) c.index-rows-number.is) in
    record {
      way = way-next (rows_cluster k spans active) (rows_cluster k spans (drop i active)) (line_in k (row_span x)) (rows_cluster k spans (drop (i + 1) active))
          c.args.pending.now c.active.pending c.print_cluster.new.pending (g.K.Sink.seen c.args.out.now) (g.K.Sink.seen c.active.out) (g.K.Sink.seen c.print_cluster.new.out) tt
          line c.active.invariant.way c.in_ok-print_cluster.ensures.pushes;
      puts = record { failures = omega (arith, c.in_ok-print_cluster.ensures.puts.puts.failures, c.active.invariant.puts.failures); wants = omega (arith, c.in_ok-print_cluster.ensures.puts.puts.wants, c.active.invariant.puts.wants) };
    }
