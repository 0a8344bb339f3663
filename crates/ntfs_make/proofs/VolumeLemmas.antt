-- The writes of the whole volume.
use Rattle.std.proofs.Common.{◌≡◌, ℕ, [], ◌∷◌, ◌++◌, map, ap, subst, Result, Err}
use Rattle.ntfs_base.specs.Image.{ImageState}
use Rattle.ntfs_base.specs.Writes.{after_writes, Wrote}
use Rattle.ntfs_make.specs.declared.shape.Shape.{Shape}
use Rattle.ntfs_make.specs.Shape.{shape_of}
use Rattle.ntfs_make.specs.Areas.{areas_of}
use Rattle.ntfs_make.specs.Volume.{area_write, copy_write, shape_writes, volume_writes}
use Rattle.ntfs_base.proofs.WroteLemmas.{wrote-then, wrote-cut}

writes-are : (seed clusters cluster : ℕ) (shape : Shape) → shape ≡ shape_of seed clusters cluster → map (area_write shape) (areas_of shape) ++ copy_write shape ∷ [] ≡ volume_writes seed clusters cluster
unfolding volume_writes shape_writes
writes-are seed clusters cluster shape is = ap shape_writes is

pub volume-cut : {E : Type 0} (seed clusters cluster : ℕ) (shape : Shape) (old new : ImageState) (fault : E) → shape ≡ shape_of seed clusters cluster
    → Wrote {T = Unit {0}} (map (area_write shape) (areas_of shape)) old (Err fault) new → Wrote {T = Unit {0}} (volume_writes seed clusters cluster) old (Err fault) new
volume-cut seed clusters cluster shape old new fault is step =
    subst (λ ws. Wrote {T = Unit {0}} ws old (Err fault) new) (writes-are seed clusters cluster shape is)
    (wrote-cut (map (area_write shape) (areas_of shape)) (copy_write shape ∷ []) old new fault step)

pub volume-then : {E : Type 0} (seed clusters cluster : ℕ) (shape : Shape) (old mid new : ImageState) (result : Result (Unit {0}) E) → shape ≡ shape_of seed clusters cluster
    → mid ≡ after_writes (map (area_write shape) (areas_of shape)) old → Wrote (copy_write shape ∷ []) mid result new → Wrote (volume_writes seed clusters cluster) old result new
volume-then seed clusters cluster shape old mid new result is before step =
    subst (λ ws. Wrote {T = Unit {0}} ws old result new) (writes-are seed clusters cluster shape is)
    (wrote-then (map (area_write shape) (areas_of shape)) (copy_write shape ∷ []) old mid new result before step)
