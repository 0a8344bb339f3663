use Rattle.std.proofs.Common.{◌+◌, ◌-◌, ◌<◌, ◌++◌, ◌∙◌, [], drop, length, map, refl, sym, ap, subst, arith}
use Rattle.std.specs.Prelude.{filter, nat_lt}
use Rattle.std.specs.List.Sorted.{IsNonDecreasing}
use Rattle.std.proofs.lemmas.List.Elements.{All-nil, All-same}
use Rattle.std.proofs.lemmas.List.Kept.{IsNonDecreasingBy-filter}
use Rattle.std.proofs.lemmas.List.Sorted.{IsNonDecreasingBy-short}
use Rattle.std.proofs.lemmas.Result.{err_from_is_err_and}
use Rattle.ntfs_owners.specs.Sweep.{HasCluster, span_end, span_first, next_cluster, rows_cluster, row_span, swept_lines}
use Rattle.ntfs_print.proofs.PendingLemmas.{way-cut, way-end, way-next, way-start, way-stop}
use Rattle.ntfs_owners.proofs.SweepLemmas.{swept-next}
use Rattle.ntfs_owners.proofs.TurnLemmas.{active-have, active-lines, due-none, end-lines, ended-go, next-is, next-lines, swept-by}
use Rattle.ntfs_owners.proofs.sweep.sweep.Goals as goal

pub clusters-init : goal.clusters-init
clusters-init g c =
    let spans = map row_span c.args.rows.now in
    let none = c.new-active.ensures.items in
    record {
      swept = swept-by (span_first spans) (span_end spans) (length spans) c.args.from [] c.new-active.result.items c.args.starts.now c.args.starts.now (sym none) refl c.requires.swept;
      order = subst IsNonDecreasing (sym none) (IsNonDecreasingBy-short (λ x. x) [] (omega arith));
      going = All-same (λ i. c.args.from < span_end spans i) c.new-active.result.items [] none (All-nil (λ i. c.args.from < span_end spans i));
      from = omega arith;
      way = way-start (swept_lines spans c.args.from (c.args.end - c.args.from)) c.args.pending.now (g.K.Sink.seen c.args.out.now);
      puts = record { failures = omega arith; wants = omega arith };
    }

pub returns-in_err-start_due-clause-pushes : goal.returns-in_err-start_due-clause-pushes
returns-in_err-start_due-clause-pushes g c =
    let spans = map row_span c.args.rows.now in
    let p = err_from_is_err_and c.from_residual.result c.from_residual.ensures.1 in
    rw p.1 (way-stop (swept_lines spans c.args.from (c.args.end - c.args.from)) (swept_lines spans c.clusters.at (c.args.end - c.clusters.at)) c.args.pending.now c.clusters.pending c.clusters.pending
    (g.K.Sink.seen c.args.out.now) (g.K.Sink.seen c.clusters.out) _ c.clusters.invariant.way)

pub print_rows-requires : goal.print_rows-requires
print_rows-requires g c =
    let spans = map row_span c.args.rows.now in
    let first = span_first spans in
    let ends = span_end spans in
    let m = length spans in
    let at = c.clusters.at in
    let end = c.args.end in
    let cluster = c.in-Some.cluster in
    let waiting = drop c.clusters.next c.args.starts.now in
    let is = ap (λ rows. next_cluster at rows waiting) (sym c.deref.ensures.value) ∙ sym c.next_cluster.ensures ∙ c.in-Some.is in
    let n = next-is spans end at cluster c.clusters.active.items waiting c.requires.ends c.clusters.invariant.going c.clusters.invariant.swept is in
    let active = c.start_due.new.active.items in
    let left = drop c.start_due.new.next c.args.starts.now in
    let swept = c.in_ok-start_due.ensures.swept first ends m n.swept in
    let order = c.in_ok-start_due.ensures.order c.clusters.invariant.order in
    let later = due-none cluster left swept.later swept.sorted c.in_ok-start_due.ensures.none in
    All-same (HasCluster spans cluster) c.deref-in-Some.result.now active c.deref-in-Some.ensures.value (active-have spans cluster active left swept order later)

pub returns-in_err-print_rows-clause-pushes : goal.returns-in_err-print_rows-clause-pushes
returns-in_err-print_rows-clause-pushes g c =
    let spans = map row_span c.args.rows.now in
    let first = span_first spans in
    let ends = span_end spans in
    let m = length spans in
    let at = c.clusters.at in
    let end = c.args.end in
    let cluster = c.in-Some.cluster in
    let waiting = drop c.clusters.next c.args.starts.now in
    let is = ap (λ rows. next_cluster at rows waiting) (sym c.deref.ensures.value) ∙ sym c.next_cluster.ensures ∙ c.in-Some.is in
    let n = next-is spans end at cluster c.clusters.active.items waiting c.requires.ends c.clusters.invariant.going c.clusters.invariant.swept is in
    let active = c.start_due.new.active.items in
    let left = drop c.start_due.new.next c.args.starts.now in
    let swept = c.in_ok-start_due.ensures.swept first ends m n.swept in
    let order = c.in_ok-start_due.ensures.order c.clusters.invariant.order in
    let later = due-none cluster left swept.later swept.sorted c.in_ok-start_due.ensures.none in
    let more = swept_lines spans (cluster + 1) (end - (cluster + 1)) in
    let line = next-lines spans at end cluster n.behind n.below n.gap ∙ ap (λ xs. xs ++ more) (active-lines spans cluster active left swept order later ∙ ap (rows_cluster cluster spans) (sym c.deref-in-Some.ensures.value)) in
    let p = err_from_is_err_and c.from_residual-in_err-print_rows.result c.from_residual-in_err-print_rows.ensures.1 in
    rw p.1 (way-cut (swept_lines spans c.args.from (end - c.args.from)) (swept_lines spans at (end - at)) (rows_cluster cluster spans c.deref-in-Some.result.now) more
    c.args.pending.now c.clusters.pending c.print_rows.new.pending c.print_rows.new.pending (g.K.Sink.seen c.args.out.now) (g.K.Sink.seen c.clusters.out) (g.K.Sink.seen c.print_rows.new.out) _ _
    line c.clusters.invariant.way c.in_err-print_rows.ensures.pushes)

pub overflow_add-at : goal.overflow_add-at
overflow_add-at g c =
    let spans = map row_span c.args.rows.now in
    let first = span_first spans in
    let ends = span_end spans in
    let m = length spans in
    let at = c.clusters.at in
    let end = c.args.end in
    let cluster = c.in-Some.cluster in
    let waiting = drop c.clusters.next c.args.starts.now in
    let is = ap (λ rows. next_cluster at rows waiting) (sym c.deref.ensures.value) ∙ sym c.next_cluster.ensures ∙ c.in-Some.is in
    let n = next-is spans end at cluster c.clusters.active.items waiting c.requires.ends c.clusters.invariant.going c.clusters.invariant.swept is in
    omega (arith, n.below, c.ranges.end.fits)

pub clusters-smaller : goal.clusters-smaller
clusters-smaller g c =
    let spans = map row_span c.args.rows.now in
    let first = span_first spans in
    let ends = span_end spans in
    let m = length spans in
    let at = c.clusters.at in
    let end = c.args.end in
    let cluster = c.in-Some.cluster in
    let waiting = drop c.clusters.next c.args.starts.now in
    let is = ap (λ rows. next_cluster at rows waiting) (sym c.deref.ensures.value) ∙ sym c.next_cluster.ensures ∙ c.in-Some.is in
    let n = next-is spans end at cluster c.clusters.active.items waiting c.requires.ends c.clusters.invariant.going c.clusters.invariant.swept is in
    let fewer : end - (cluster + 1) < end - at = omega (arith, n.behind, n.below) in
    fewer

pub clusters-preserved : goal.clusters-preserved
clusters-preserved g c =
    let spans = map row_span c.args.rows.now in
    let first = span_first spans in
    let ends = span_end spans in
    let m = length spans in
    let at = c.clusters.at in
    let end = c.args.end in
    let cluster = c.in-Some.cluster in
    let waiting = drop c.clusters.next c.args.starts.now in
    let is = ap (λ rows. next_cluster at rows waiting) (sym c.deref.ensures.value) ∙ sym c.next_cluster.ensures ∙ c.in-Some.is in
    let n = next-is spans end at cluster c.clusters.active.items waiting c.requires.ends c.clusters.invariant.going c.clusters.invariant.swept is in
    let active = c.start_due.new.active.items in
    let left = drop c.start_due.new.next c.args.starts.now in
    let swept = c.in_ok-start_due.ensures.swept first ends m n.swept in
    let order = c.in_ok-start_due.ensures.order c.clusters.invariant.order in
    let later = due-none cluster left swept.later swept.sorted c.in_ok-start_due.ensures.none in
    let more = swept_lines spans (cluster + 1) (end - (cluster + 1)) in
    let line = next-lines spans at end cluster n.behind n.below n.gap ∙ ap (λ xs. xs ++ more) (active-lines spans cluster active left swept order later ∙ ap (rows_cluster cluster spans) (sym c.deref-in-Some.ensures.value)) in
    record {
      swept = swept-by first ends m (cluster + 1) (filter (λ i. nat_lt (cluster + 1) (ends i)) active) c.drop_ended.new.active.items left left (sym c.drop_ended.ensures) refl (swept-next first ends m cluster active left swept later);
      order = subst IsNonDecreasing (sym c.drop_ended.ensures) (IsNonDecreasingBy-filter (λ x. x) (λ i. nat_lt (cluster + 1) (ends i)) active order);
      going = All-same (λ i. cluster + 1 < ends i) c.drop_ended.new.active.items (filter (λ i. nat_lt (cluster + 1) (ends i)) active) c.drop_ended.ensures (ended-go spans (cluster + 1) active);
      from = omega (arith, c.clusters.invariant.from, n.behind);
      way = way-next (swept_lines spans c.args.from (end - c.args.from)) (swept_lines spans at (end - at)) (rows_cluster cluster spans c.deref-in-Some.result.now) more
          c.args.pending.now c.clusters.pending c.print_rows.new.pending (g.K.Sink.seen c.args.out.now) (g.K.Sink.seen c.clusters.out) (g.K.Sink.seen c.print_rows.new.out) tt
          line c.clusters.invariant.way c.in_ok-print_rows.ensures.pushes;
      puts = record { failures = omega (arith, c.in_ok-print_rows.ensures.puts.puts.failures, c.clusters.invariant.puts.failures); wants = omega (arith, c.in_ok-print_rows.ensures.puts.puts.wants, c.clusters.invariant.puts.wants) };
    }

pub returns-clause-pushes : goal.returns-clause-pushes
returns-clause-pushes g c =
    let spans = map row_span c.args.rows.now in
    let at = c.clusters.at in
    let waiting = drop c.clusters.next c.args.starts.now in
    let is = ap (λ rows. next_cluster at rows waiting) (sym c.deref.ensures.value) ∙ sym c.next_cluster.ensures ∙ c.in_default.is in
    way-end (swept_lines spans c.args.from (c.args.end - c.args.from)) (swept_lines spans at (c.args.end - at)) c.args.pending.now c.clusters.pending (g.K.Sink.seen c.args.out.now) (g.K.Sink.seen c.clusters.out) tt
    (end-lines spans at (c.args.end - at) c.clusters.active.items waiting c.clusters.invariant.swept is) c.clusters.invariant.way
