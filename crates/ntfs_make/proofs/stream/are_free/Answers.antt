use Rattle.std.proofs.Common.{◌≡◌, ◌<◌, ◌+◌, ◌*◌, ℕ, IsTrue, not, ap, arith}
use Rattle.ntfs_make.specs.declared.shape.Shape.{Shape}
use Rattle.ntfs_make.specs.Shape.{bad_cluster}
use Rattle.ntfs_make.proofs.BitmapLemmas.{free-byte, is-false}
use Rattle.ntfs_make.proofs.stream.are_free.Goals as goal

pub returns : goal.returns
returns c = λ (free : IsTrue (not c.has_area_near.result)).
    let same : c.shape-clusters.result.clusters ≡ c.args.layout.now.clusters = ap (λ (s : Shape). s.clusters) c.shape-clusters.ensures.is in
    let bad : bad_cluster c.shape-clusters.result.clusters ≡ bad_cluster c.args.layout.now.clusters = ap bad_cluster same in
    free-byte c.args.layout.now (8 * c.args.place) (omega arith)
    (λ (i : ℕ) (within : i < 8) (same : 8 * c.args.place + i ≡ bad_cluster c.args.layout.now.clusters). absurd (omega arith))
    (λ (i : ℕ) (within : i < 8). rw (← c.areas.ensures.are) (c.has_area_near.ensures (is-false c.has_area_near.result free) i within))
