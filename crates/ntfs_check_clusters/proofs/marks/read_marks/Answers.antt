use Rattle.std.proofs.Common.{◌≡◌, ◌∙◌, subst, sym, take}
use Rattle.ntfs_base.proofs.FramesLemmas.{told_still}
use Rattle.ntfs_base.specs.Bytes.{cluster_at}
use Rattle.ntfs_boot.specs.declared.geometry.Geometry.{Geometry}
use Rattle.ntfs_check_clusters.proofs.StreamLemmas.{marks-gathered, marks-missing}
use Rattle.ntfs_check_clusters.proofs.marks.read_marks.Goals as goal
use Rattle.ntfs_stream.specs.StreamBytes.{bytes_of_stream, filled_stream}

pub returns-in-None-clause-bytes : goal.returns-in-None-clause-bytes
returns-in-None-clause-bytes g c told =
    let o = c.args.table.now in
    marks-missing o (cluster_at (g.G.Image.seen c.args.image.now).content o.geometry.cluster) c.args.most (sym c.in-None.is ∙ c.in_ok-gather_unnamed.ensures.found told)

pub returns-in_ok-front-in-Some-clause-bytes : goal.returns-in_ok-front-in-Some-clause-bytes
returns-in_ok-front-in-Some-clause-bytes g c told =
    let o = c.args.table.now in
    let content = (g.G.Image.seen c.args.image.now).content in
    let s = c.in-Some.stream.stream in
    let front = c.in_ok-front-in-Some.front in
    let bytes = told_still g.G.Image _ _ (λ content. front ≡ take c.args.most (bytes_of_stream c.geometry.result.now.cluster (filled_stream c.geometry.result.now content s)))
    c.in_ok-gather_unnamed.ensures.reads.seen c.in_ok-front-in-Some.ensures.bytes told in
    marks-gathered o (cluster_at content o.geometry.cluster) c.args.most c.in-Some.stream front (sym c.in-Some.is ∙ c.in_ok-gather_unnamed.ensures.found told)
    (subst (λ (k : Geometry). front ≡ take c.args.most (bytes_of_stream k.cluster (filled_stream k content s))) c.geometry.ensures.kept bytes)
