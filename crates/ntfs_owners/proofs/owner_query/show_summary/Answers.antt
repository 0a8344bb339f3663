use Rattle.std.proofs.lemmas.Result.{err_from_is_err_and}
use Rattle.ntfs_base.specs.Bytes.{cluster_at}
use Rattle.ntfs_base.proofs.FramesLemmas.{puts_none}
use Rattle.ntfs_print.specs.Fault.{show_origin}
use Rattle.ntfs_print.proofs.AnswerLemmas.{puts_by}
use Rattle.ntfs_owners.proofs.OwnersLemmas.{summary-printed, summary-unprinted}
use Rattle.ntfs_owners.proofs.owner_query.show_summary.Goals as goal

pub returns-in_err-summary-clause-told : goal.returns-in_err-summary-clause-told
returns-in_err-summary-clause-told g c told =
    let o = c.args.table.now in
    let p = err_from_is_err_and c.from_residual.result c.from_residual.ensures.1 in
    rw (p.1, p.2) (puts_none show_origin _ _ (g.K.Sink.seen c.args.out.now) (λ settled.
    summary-unprinted o (cluster_at (g.G.Image.seen c.args.image.now).content o.geometry.cluster) _ (c.in_err-summary.ensures.gives told settled)))

pub returns-clause-told : goal.returns-clause-told
returns-clause-told g c told =
    let o = c.args.table.now in
    puts_by show_origin _ _ _ _ _ (summary-printed o (cluster_at (g.G.Image.seen c.args.image.now).content o.geometry.cluster) c.in_ok-summary.summary (c.in_ok-summary.ensures.gives told))
    c.put_summary.ensures.puts

pub returns-in_err-summary-clause-listed : goal.returns-in_err-summary-clause-listed
returns-in_err-summary-clause-listed g c query =
    let p = err_from_is_err_and c.from_residual.result c.from_residual.ensures.1 in
    rw (p.1, p.2) (c.in_err-summary.ensures.listed query)
