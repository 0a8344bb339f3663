use Rattle.std.proofs.Common.{◌≡◌, ◌*◌, ◌+◌, ◌-◌, ℕ, List, min, subst, ap, sym, ◌∙◌, arith}
use Rattle.ntfs_make.specs.declared.shape.Shape.{Shape}
use Rattle.ntfs_make.specs.Areas.{area_cluster_count}
use Rattle.ntfs_make.specs.Streams.{HasBetween, content_bytes, counting_bytes}
use Rattle.ntfs_make.proofs.ShapeLemmas.{bounds, times-fits}
use Rattle.ntfs_make.proofs.PartLemmas.{counting-part}
use Rattle.ntfs_make.proofs.stream.counting_part.Goals as goal

pub overflow_mul-size : goal.overflow_mul-size
overflow_mul-size c =
    let b = bounds _ c.shape-shape.ensures.range in
    let short = c.area_cluster_count.ensures.small in
    let fits = times-fits c.area_cluster_count.result c.shape-shape.result.cluster (omega arith) b.most in
    omega arith

pub counting_bytes-requires-clause-count : goal.counting_bytes-requires-clause-count
counting_bytes-requires-clause-count c =
    let b = bounds _ c.shape-shape.ensures.range in
    let short = c.area_cluster_count.ensures.small in
    let fits = times-fits c.area_cluster_count.result c.shape-shape.result.cluster (omega arith) b.most in
    omega arith

pub returns : goal.returns
unfolding content_bytes
returns c =
    let size = area_cluster_count c.args.layout.now c.args.vcns * c.args.layout.now.cluster in
    let is : c.area_cluster_count.result * c.shape-shape.result.cluster ≡ size
    = ap (λ n. n * c.shape-shape.result.cluster) c.area_cluster_count.ensures.exact
    ∙ ap (λ (s : Shape). area_cluster_count s c.args.vcns * s.cluster) c.shape-shape.ensures.is in
    let left : c.min-left.result ≡ min (size - c.args.from) c.args.count
    = c.min-left.ensures ∙ ap (λ n. min n c.args.count) (c.saturating_sub.ensures ∙ ap (λ n. n - c.args.from) is) in
    let bytes : c.in_ok-bytes.bytes.items ≡ counting_bytes (c.args.number + c.args.from) (min (size - c.args.from) c.args.count)
    = c.in_ok-bytes.ensures ∙ ap (λ n. counting_bytes (n + c.args.from) c.min-left.result) c.from.ensures ∙ ap (counting_bytes (c.args.number + c.args.from)) left in
    subst (λ (some : List ℕ). HasBetween c.args.from c.args.count (counting_bytes c.args.number size) c.args.from some) (sym bytes)
    (counting-part c.args.number size c.args.from c.args.count)
