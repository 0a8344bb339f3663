use Rattle.std.proofs.Common.{◌≡◌, ◌-◌, ◌*◌, ◌≤◌, ℕ, List, length, ap, subst, sym, arith}
use Rattle.ntfs_base.proofs.PieceLemmas.{length-piece-le}
use Rattle.ntfs_make.specs.declared.shape.Shape.{Shape}
use Rattle.ntfs_make.specs.Volume.{LiesInVolume}
use Rattle.ntfs_make.proofs.ShapeLemmas.{bounds, times-fits, inside}
use Rattle.ntfs_base.proofs.WroteLemmas.{wrote-none-as}
use Rattle.ntfs_make.proofs.making.write_area.Goals as goal

pub overflow_mul-from : goal.overflow_mul-from
overflow_mul-from g c =
    let b = bounds _ c.shape-cluster.ensures.range in
    let first = c.requires.lies.first in
    let fits = times-fits c.args.area.now.first_vcn c.shape-cluster.result.cluster (omega arith) b.most in
    omega arith

pub overflow_mul-count : goal.overflow_mul-count
overflow_mul-count g c =
    let b = bounds _ c.shape-cluster.ensures.range in
    let small = c.requires.lies.small in
    let fits = times-fits c.args.area.now.length c.shape-cluster.result.cluster (omega arith) b.most in
    omega arith

pub stream_part-requires-clause-from : goal.stream_part-requires-clause-from
stream_part-requires-clause-from g c =
    let b = bounds _ c.shape-cluster.ensures.range in
    let first = c.requires.lies.first in
    let fits = times-fits c.args.area.now.first_vcn c.shape-cluster.result.cluster (omega arith) b.most in
    omega arith

pub stream_part-requires-clause-count : goal.stream_part-requires-clause-count
stream_part-requires-clause-count g c =
    let b = bounds _ c.shape-cluster.ensures.range in
    let small = c.requires.lies.small in
    let fits = times-fits c.args.area.now.length c.shape-cluster.result.cluster (omega arith) b.most in
    omega arith

pub returns-in_err-part-clause-wrote : goal.returns-in_err-part-clause-wrote
returns-in_err-part-clause-wrote g c = wrote-none-as _ _ _ c.from_residual.ensures.0

pub overflow_mul-area : goal.overflow_mul-area
overflow_mul-area g c =
    let b = bounds _ c.shape-cluster.ensures.range in
    let lies : LiesInVolume c.shape-cluster.result c.args.area.now = subst (λ (s : Shape). LiesInVolume s c.args.area.now) (sym c.shape-cluster.ensures.is) c.requires.lies in
    let ends = lies.clusters in
    let fits = times-fits c.args.area.now.start c.shape-cluster.result.cluster (omega arith) b.most in
    omega arith

pub write_at-requires : goal.write_at-requires
write_at-requires g c =
    let shape = c.args.layout.now in
    let lies = c.requires.lies in
    let same : c.shape-cluster.result.cluster ≡ shape.cluster = ap (λ (s : Shape). s.cluster) c.shape-cluster.ensures.is in
    let cut = length-piece-le (c.args.area.now.first_vcn * c.shape-cluster.result.cluster - c.in_ok-part.part.place) (c.args.area.now.length * c.shape-cluster.result.cluster) c.deref.result.now in
    let bytes : length c.piece-bytes.result.now ≤ c.args.area.now.length * shape.cluster
    = subst (λ n. length c.piece-bytes.result.now ≤ c.args.area.now.length * n) same
    (subst (λ (l : List ℕ). length l ≤ c.args.area.now.length * c.shape-cluster.result.cluster) (sym c.piece-bytes.ensures) cut) in
    let within = inside c.args.area.now.start c.args.area.now.length shape.clusters shape.cluster (length c.piece-bytes.result.now) lies.clusters bytes in
    let place : c.args.area.now.start * c.shape-cluster.result.cluster ≡ c.args.area.now.start * shape.cluster = ap (λ n. c.args.area.now.start * n) same in
    let size = c.requires.size in
    omega (arith, within, place, size)
