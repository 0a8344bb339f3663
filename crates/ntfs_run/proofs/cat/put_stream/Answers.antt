use Rattle.std.proofs.Common.{sym, subst}
use Rattle.std.proofs.lemmas.Result.{err_from_is_err_and}
use Rattle.ntfs_base.specs.Frames.{Puts, refused_as}
use Rattle.ntfs_base.proofs.FramesLemmas.{puts_none, told_still}
use Rattle.ntfs_show.specs.Cat.{cat_outcome}
use Rattle.ntfs_run.specs.Cat.{stream_name}
use Rattle.ntfs_run.specs.Outcome.{show_status, status_origin}
use Rattle.ntfs_run.proofs.ShowLemmas.{meant_bytes, unmeant_bytes}
use Rattle.ntfs_run.proofs.cat.put_stream.Goals as goal

pub returns-in_err-number-clause-puts : goal.returns-in_err-number-clause-puts
returns-in_err-number-clause-puts g c told =
    let p = err_from_is_err_and c.from_residual.result c.from_residual.ensures.1 in
    rw (p.1, p.2) (puts_none status_origin _ _ _ (λ settled. unmeant_bytes c.args.stream.now.target.now c.args.stream.now.kind (stream_name c.args.stream.now.name.now)
    c.args.table.now (g.G.Image.seen c.args.image.now).content _ (c.in_err-number.ensures.gives told settled)))

pub returns-clause-puts : goal.returns-clause-puts
returns-clause-puts g c told =
    let number = c.in_ok-number.number in
    let kind = c.args.stream.now.kind in
    let name = stream_name c.args.stream.now.name.now in
    let table = c.args.table.now in
    let puts = told_still g.G.Image _ _ (λ content. Puts status_origin (refused_as show_status (cat_outcome table content number kind name)) (g.O.Sink.seen c.args.out.now) c.put_numbered.result (g.O.Sink.seen c.put_numbered.new.out))
    c.in_ok-number.ensures.reads.seen c.put_numbered.ensures.puts in
    subst (λ expected. Puts status_origin expected (g.O.Sink.seen c.args.out.now) c.put_numbered.result (g.O.Sink.seen c.put_numbered.new.out))
    (sym (meant_bytes c.args.stream.now.target.now kind name table (g.G.Image.seen c.args.image.now).content number (c.in_ok-number.ensures.gives told))) (puts told)
