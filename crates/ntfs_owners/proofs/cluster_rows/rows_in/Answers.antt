use Rattle.std.proofs.Common.{map, ap, ◌∙◌}
use Rattle.ntfs_owners.specs.Held.{held_of}
use Rattle.ntfs_owners.specs.Sweep.{run_spans, row_span}
use Rattle.ntfs_owners.proofs.SpanLemmas.{held-last, held-next}
use Rattle.ntfs_owners.proofs.cluster_rows.rows_in.Goals as goal

pub held-preserved : goal.held-preserved
held-preserved c =
    let x = held_of c.holding-item.result in
    held-next c.args.from c.args.end c.held.holding-index c.args.held.now c.holding-item.result (map row_span c.held.rows.items) (map row_span c.add_runs.new.rows.items)
    (run_spans c.args.from c.args.end c.as_str.result.now c.holding-item.result.lowest c.runs.result.now) _ c.held-test.true c.holding-item.is
    (ap (λ text. run_spans c.args.from c.args.end text c.holding-item.result.lowest c.runs.result.now) c.as_str.ensures.value ∙ ap (run_spans c.args.from c.args.end x.text x.lowest) c.runs.ensures)
    c.in_ok-add_runs.ensures c.held.invariant

pub returns : goal.returns
returns c = held-last c.args.from c.args.end c.held.holding-index c.args.held.now (map row_span c.held.rows.items) _ c.held-test.false c.held.invariant
