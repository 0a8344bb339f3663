use Rattle.std.proofs.Common.{◌≡◌, ◌≤◌, sym, ap, subst, ℕ, length, Ok}
use Rattle.std.proofs.lemmas.Result.{err_from_is_err_and}
use Rattle.ntfs_base.specs.Bytes.{cluster_at}
use Rattle.ntfs_boot.specs.Geometry.{bytes_of_clusters}
use Rattle.ntfs_stream.specs.Fault.{stream_origin}
use Rattle.ntfs_stream.proofs.AnswerLemmas.{given, never, puts_by}
use Rattle.ntfs_stream.proofs.PutLemmas.{left-start, puts-failed, puts-stop, puts-whole, sink-cuts}
use Rattle.ntfs_stream.proofs.RowLemmas.{row-put}
use Rattle.ntfs_stream.proofs.StreamBytesLemmas.{clusters-long}
use Rattle.ntfs_stream.proofs.row.put_row.Goals as goal

pub returns-in_err-read_row-clause-told : goal.returns-in_err-read_row-clause-told
returns-in_err-read_row-clause-told g c told =
    let p = err_from_is_err_and c.from_residual.result c.from_residual.ensures.1 in
    rw (p.1, p.2) (puts-stop stream_origin _ _ _ _ _ (never stream_origin _ _ (c.in_err-read_row.ensures.gives told)) (left-start _ _))

pub returns-in_err-put-clause-told : goal.returns-in_err-put-clause-told
returns-in_err-put-clause-told g c told =
    let k = c.args.geometry.now in
    let image = g.G.Image.seen c.args.image.now in
    let long : length image.content ≡ image.size = g.met.G.Image.told_size c.args.image.now told in
    let held = subst (λ (n : ℕ). bytes_of_clusters k ≤ n) (sym long) c.requires.opened.held in
    let bytes = row-put (cluster_at image.content k.cluster) k.cluster k.clusters c.args.rest.size c.args.rest.valid c.args.part.now.length c.min.result c.args.part.now.lcn c.read_row.new.buffer
    (clusters-long image.content k.cluster k.clusters held) c.requires.cells (given _ _ (c.in_ok-read_row.ensures.gives told)) c.min.ensures in
    let p = err_from_is_err_and c.from_residual-in_err-put.result c.from_residual-in_err-put.ensures.1 in
    rw (p.1, p.2) (puts_by stream_origin _ _ _ _ _ (ap Ok (sym bytes)) (puts-failed stream_origin _ _ _ _ _ (sink-cuts c.in_err-put.field-0.0) c.in_err-put.ensures.put))

pub returns-clause-told : goal.returns-clause-told
returns-clause-told g c told =
    let k = c.args.geometry.now in
    let image = g.G.Image.seen c.args.image.now in
    let long : length image.content ≡ image.size = g.met.G.Image.told_size c.args.image.now told in
    let held = subst (λ (n : ℕ). bytes_of_clusters k ≤ n) (sym long) c.requires.opened.held in
    let bytes = row-put (cluster_at image.content k.cluster) k.cluster k.clusters c.args.rest.size c.args.rest.valid c.args.part.now.length c.min.result c.args.part.now.lcn c.read_row.new.buffer
    (clusters-long image.content k.cluster k.clusters held) c.requires.cells (given _ _ (c.in_ok-read_row.ensures.gives told)) c.min.ensures in
    puts_by stream_origin _ _ _ _ _ (ap Ok (sym bytes)) (puts-whole stream_origin _ _ _ c.in_ok-put.ensures.put.whole)
