use Rattle.std.proofs.Common.{◌-◌, [], refl, sym, length, map}
use Rattle.std.proofs.lemmas.Result.{err_from_is_err_and}
use Rattle.ntfs_owners.specs.Sweep.{span_end, span_first, row_span, swept_lines}
use Rattle.ntfs_print.proofs.PendingLemmas.{pushes-stop}
use Rattle.ntfs_owners.proofs.StartLemmas.{starts-swept}
use Rattle.ntfs_owners.proofs.TurnLemmas.{swept-by}
use Rattle.ntfs_owners.proofs.sweep.print_clusters.Goals as goal

pub returns-in_err-starts-clause-pushes : goal.returns-in_err-starts-clause-pushes
returns-in_err-starts-clause-pushes g c =
    let p = err_from_is_err_and c.from_residual.result c.from_residual.ensures.1 in
    rw p.1 (pushes-stop (swept_lines (map row_span c.args.rows.now) c.args.from (c.args.end - c.args.from)) c.args.pending.now c.args.pending.now (g.K.Sink.seen c.args.out.now) _)

pub sweep-requires-clause-swept : goal.sweep-requires-clause-swept
sweep-requires-clause-swept g c =
    let spans = map row_span c.args.rows.now in
    swept-by (span_first spans) (span_end spans) (length spans) c.args.from [] [] c.in_ok-starts.starts.items c.deref.result.now refl (sym c.deref.ensures.value)
    (starts-swept c.args.from c.args.end spans c.in_ok-starts.starts.items c.requires c.in_ok-starts.ensures.all c.in_ok-starts.ensures.sorted)
