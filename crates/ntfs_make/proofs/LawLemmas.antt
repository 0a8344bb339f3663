-- The writes of the volume give its bytes.
use Rattle.std.proofs.Common.{◌≡◌, ◌≤◌, ◌+◌, ◌*◌, ℕ, IsTrue, List, [], ◌∷◌, length, map, replicate, ap, ◌∙◌, arith}
use Rattle.std.specs.Prelude.{Result, Ok, Err, OnOk}
use Rattle.ntfs_base.specs.Image.{ImageState}
use Rattle.ntfs_base.specs.Writes.{content_after, Wrote}
use Rattle.ntfs_base.proofs.ContentLemmas.{AllInside, content_after-zeros, inside-append, told-content_after}
use Rattle.ntfs_base.proofs.PieceLemmas.{length-piece-le}
use Rattle.ntfs_make.specs.declared.shape.Shape.{Shape}
use Rattle.ntfs_make.specs.declared.table.Area.{Area}
use Rattle.ntfs_make.specs.Shape.{IsShape, shape_of}
use Rattle.ntfs_make.specs.Areas.{areas_of}
use Rattle.ntfs_make.specs.Streams.{area_bytes, content_bytes}
use Rattle.ntfs_make.specs.Volume.{area_write, copy_write, shape_writes, volume_writes, volume_bytes_of, LiesInVolume}
use Rattle.ntfs_make.proofs.ShapeLemmas.{inside, sectors-end}
use Rattle.ntfs_make.proofs.StreamLemmas.{length-boot}
use Rattle.ntfs_make.proofs.AreaLemmas.{AllAreas, all-lie}

-- what stands in an area fits its clusters
pub area-fits : (shape : Shape) (area : Area) → length (area_bytes shape area) ≤ area.length * shape.cluster
unfolding area_bytes
area-fits shape area = length-piece-le (area.first_vcn * shape.cluster) (area.length * shape.cluster) (content_bytes shape area.content)

inside-areas : (shape : Shape) (areas : List Area) → AllAreas (LiesInVolume shape) areas → AllInside ((shape.clusters + 1) * shape.cluster) (map (area_write shape) areas)
inside-areas shape [] lie = tt
inside-areas shape (area ∷ areas) lie =
    let here = lie.0 in (
      inside area.start area.length shape.clusters shape.cluster (length (area_bytes shape area)) here.clusters (area-fits shape area),
      inside-areas shape areas lie.1,
    )

pub inside-writes : (shape : Shape) → IsShape shape → AllInside ((shape.clusters + 1) * shape.cluster) (shape_writes shape)
unfolding shape_writes
inside-writes shape is =
    let boot = length-boot shape in
    let last = sectors-end shape is in
    inside-append ((shape.clusters + 1) * shape.cluster) (map (area_write shape) (areas_of shape)) (copy_write shape ∷ []) (inside-areas shape (areas_of shape) (all-lie shape is)) (omega arith, tt)

-- the writes over zeros give the volume
pub volume-given : (seed clusters cluster : ℕ) → IsShape (shape_of seed clusters cluster) → content_after (volume_writes seed clusters cluster) (replicate ((clusters + 1) * cluster) 0) ≡ volume_bytes_of seed clusters cluster
unfolding volume_bytes_of volume_writes
volume-given seed clusters cluster is =
    content_after-zeros (shape_writes (shape_of seed clusters cluster)) ((clusters + 1) * cluster) (inside-writes (shape_of seed clusters cluster) is)

-- what a call leaves that has written the volume over zeros
pub made-given : {E : Type 0} (seed clusters cluster : ℕ) (old new : ImageState) (result : Result (Unit {0}) E) → IsShape (shape_of seed clusters cluster) → Wrote (volume_writes seed clusters cluster) old result new
    → (IsTrue old.is_told → old.content ≡ replicate ((clusters + 1) * cluster) 0) → OnOk result (IsTrue old.is_told → new.content ≡ volume_bytes_of seed clusters cluster)
made-given seed clusters cluster old new (Ok x) range is zeros = λ (told : IsTrue old.is_told).
    told-content_after (volume_writes seed clusters cluster) old new is.whole told ∙ ap (content_after (volume_writes seed clusters cluster)) (zeros told) ∙ volume-given seed clusters cluster range
made-given seed clusters cluster old new (Err e) range is zeros = tt
