use Rattle.std.proofs.Common.{◌∙◌}
use Rattle.std.proofs.lemmas.Result.{err_from_is_err_and}
use Rattle.ntfs_base.proofs.FramesLemmas.{puts_none}
use Rattle.ntfs_stream.specs.Fault.{stream_origin}
use Rattle.ntfs_stream.specs.StreamBytes.{stream_outcome}
use Rattle.ntfs_show.specs.Cat.{printed_bytes}
use Rattle.ntfs_print.specs.Fault.{show_origin, stream_refusal}
use Rattle.ntfs_print.specs.declared.fault.ShowFault.TheVariants as show
use Rattle.ntfs_print.proofs.AnswerLemmas.{puts_refused}
use Rattle.ntfs_show.proofs.BufferLemmas.{is_buffer}
use Rattle.ntfs_show.proofs.CatLemmas.{puts_whole, stream-origin}
use Rattle.ntfs_show.proofs.streams.put_gathered.Goals as goal

pub returns-in_err-buffer-clause-told : goal.returns-in_err-buffer-clause-told
returns-in_err-buffer-clause-told g c told =
    let p = err_from_is_err_and c.from_residual.result c.from_residual.ensures.1 in
    rw (p.1, p.2) (puts_none show_origin (printed_bytes c.args.geometry.now (g.G.Image.seen c.args.image.now).content c.args.stream.now.stream) show.NoMemory (g.K.Sink.seen c.args.out.now) (λ settled. absurd settled))

pub put_stream-requires-clause-buffer : goal.put_stream-requires-clause-buffer
put_stream-requires-clause-buffer g c = is_buffer c.args.geometry.now _ c.requires.opened.good (c.deref_mut.ensures.len ∙ c.in_ok-buffer.ensures.length)

pub returns-in_err-put_stream-clause-told : goal.returns-in_err-put_stream-clause-told
returns-in_err-put_stream-clause-told g c told =
    let p = err_from_is_err_and c.from_residual-in_err-put_stream.result c.from_residual-in_err-put_stream.ensures.1 in
    rw (p.1, p.2) (puts_refused stream_origin show_origin stream_refusal stream-origin
    (stream_outcome c.args.geometry.now (g.G.Image.seen c.args.image.now).content c.args.stream.now.stream) _ _ _ (c.in_err-put_stream.ensures.told told))

pub returns-clause-told : goal.returns-clause-told
returns-clause-told g c told =
    puts_whole stream_origin show_origin stream_refusal (stream_outcome c.args.geometry.now (g.G.Image.seen c.args.image.now).content c.args.stream.now.stream) _ _
    (c.in_ok-put_stream.ensures.told told)
