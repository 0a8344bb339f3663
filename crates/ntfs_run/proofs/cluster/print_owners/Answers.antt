use Rattle.std.proofs.Common.{sym, subst}
use Rattle.std.proofs.lemmas.Result.{err_from_is_err_and}
use Rattle.ntfs_base.specs.Frames.{Puts, refused_as}
use Rattle.ntfs_base.proofs.FramesLemmas.{puts_none, told_still}
use Rattle.ntfs_owners.specs.Owners.{owners_outcome}
use Rattle.ntfs_run.specs.Outcome.{show_status, status_origin}
use Rattle.ntfs_run.proofs.ShowLemmas.{asked_lines, unasked_lines}
use Rattle.ntfs_run.proofs.cluster.print_owners.Goals as goal

pub returns-in_err-query-clause-puts : goal.returns-in_err-query-clause-puts
returns-in_err-query-clause-puts g c told =
    let p = err_from_is_err_and c.from_residual.result c.from_residual.ensures.1 in
    rw (p.1, p.2) (puts_none status_origin _ _ _ (λ settled. unasked_lines c.args.ask.now
    c.args.table.now (g.G.Image.seen c.args.image.now).content _ (c.in_err-query.ensures.gives told settled)))

pub returns-clause-puts : goal.returns-clause-puts
returns-clause-puts g c told =
    let query = c.in_ok-query.query in
    let table = c.args.table.now in
    let puts = told_still g.G.Image _ _ (λ content. Puts status_origin (refused_as show_status (owners_outcome table content query)) (g.O.Sink.seen c.args.out.now) c.print_query.result (g.O.Sink.seen c.print_query.new.out))
    c.in_ok-query.ensures.reads.seen c.print_query.ensures.puts in
    subst (λ expected. Puts status_origin expected (g.O.Sink.seen c.args.out.now) c.print_query.result (g.O.Sink.seen c.print_query.new.out))
    (sym (asked_lines c.args.ask.now table (g.G.Image.seen c.args.image.now).content query (c.in_ok-query.ensures.gives told))) (puts told)
