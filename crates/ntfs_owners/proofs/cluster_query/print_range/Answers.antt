use Rattle.std.proofs.Common.{◌-◌, ap, ◌∙◌, map, subst, List, ℕ}
use Rattle.std.proofs.lemmas.Result.{err_from_is_err_and}
use Rattle.ntfs_owners.specs.Held.{held_of}
use Rattle.ntfs_owners.specs.OwnerLines.{held_clusters}
use Rattle.ntfs_print.specs.Pending.{Pushes}
use Rattle.ntfs_owners.specs.Sweep.{row_span, swept_lines}
use Rattle.ntfs_print.proofs.PendingLemmas.{pushes-stop}
use Rattle.ntfs_owners.proofs.SpanLemmas.{range-clipped}
use Rattle.ntfs_owners.proofs.StartLemmas.{rows-lie}
use Rattle.ntfs_owners.proofs.cluster_query.print_range.Goals as goal

pub print_clusters-requires : goal.print_clusters-requires
print_clusters-requires g c = rows-lie c.args.from c.args.end (map held_of c.args.held.now) (map row_span c.deref.result.now) (ap (map row_span) c.deref.ensures.value ∙ c.in_ok-rows.ensures)

pub returns-clause-pushes : goal.returns-clause-pushes
returns-clause-pushes g c =
    subst (λ (text : List ℕ). Pushes text c.args.pending.now (g.K.Sink.seen c.args.out.now) c.print_clusters.result c.print_clusters.new.pending (g.K.Sink.seen c.print_clusters.new.out))
    (ap (λ spans. swept_lines spans c.args.from (c.args.end - c.args.from)) (ap (map row_span) c.deref.ensures.value ∙ c.in_ok-rows.ensures) ∙ range-clipped c.args.from c.args.end (map held_of c.args.held.now))
    c.print_clusters.ensures.pushes

pub returns-in_err-rows-clause-pushes : goal.returns-in_err-rows-clause-pushes
returns-in_err-rows-clause-pushes g c =
    let p = err_from_is_err_and c.from_residual.result c.from_residual.ensures.1 in
    rw p.1 (pushes-stop (held_clusters c.args.from (c.args.end - c.args.from) (map held_of c.args.held.now)) c.args.pending.now c.args.pending.now (g.K.Sink.seen c.args.out.now) _)
