use Rattle.std.proofs.Common.{sym, ap, ◌∙◌}
use Rattle.std.proofs.lemmas.Result.{err_from_is_err_and}
use Rattle.ntfs_base.specs.Frames.{Puts}
use Rattle.ntfs_base.proofs.FramesLemmas.{puts_none, told_still}
use Rattle.ntfs_show.specs.Cat.{printed_bytes}
use Rattle.ntfs_print.specs.Fault.{show_origin}
use Rattle.ntfs_print.proofs.AnswerLemmas.{puts_by}
use Rattle.ntfs_show.proofs.CatLemmas.{outcome-gathered, outcome-refused}
use Rattle.ntfs_show.proofs.streams.cat_stream.Goals as goal

pub returns-in_err-stream-clause-told : goal.returns-in_err-stream-clause-told
returns-in_err-stream-clause-told g c told =
    let p = err_from_is_err_and c.from_residual.result c.from_residual.ensures.1 in
    rw (p.1, p.2) (puts_none show_origin _ _ _ (λ settled.
    outcome-refused c.args.table.now (g.G.Image.seen c.args.image.now).content c.args.number c.args.kind c.args.name.now _ (c.in_err-stream.ensures.gives told settled)))

pub returns-clause-told : goal.returns-clause-told
returns-clause-told g c told =
    let geometry = c.geometry.result.now in
    let found = c.in_ok-stream.stream in
    let content = (g.G.Image.seen c.args.image.now).content in
    let puts = told_still g.G.Image _ _ (λ content. Puts show_origin (printed_bytes geometry content found.stream) (g.K.Sink.seen c.args.out.now) c.put_gathered.result (g.K.Sink.seen c.put_gathered.new.out))
    c.in_ok-stream.ensures.reads.seen c.put_gathered.ensures.told in
    puts_by show_origin _ _ _ _ _ (outcome-gathered c.args.table.now content c.args.number c.args.kind c.args.name.now found (c.in_ok-stream.ensures.gives told)
    ∙ ap (λ g. printed_bytes g content found.stream) (sym c.geometry.ensures.kept)) (puts told)
