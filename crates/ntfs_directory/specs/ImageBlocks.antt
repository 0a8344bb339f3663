-- The blocks of an index whose allocation lies in an image. The words are ours.
use Rattle.std.specs.Prelude.{◌≡◌, ◌<◌, ◌≤◌, ℕ, true, false, Bool, Some, IfErr, Result, nat_le, if◌then◌else◌}
use Rattle.ntfs_base.specs.Causes.{Rose}
use Rattle.ntfs_base.specs.Frames.{Because, Origin}
use Rattle.ntfs_base.specs.Image.{ImageState}
use Rattle.ntfs_base.specs.declared.image.Image as image
use Rattle.ntfs_boot.specs.declared.geometry.Geometry.{Geometry}
use Rattle.ntfs_directory.specs.Allocation.{CanRead, allocation_bytes}
use Rattle.ntfs_index.specs.Blocks.{BlockMap, BlocksState, IsSized, allocation_blocks, vcn_unit}
use Rattle.ntfs_index.specs.Sized.{blocks_of-sized}
use Rattle.ntfs_volume.specs.Streams.{Stream}
use Rattle.std.proofs.Common.{arith, refl}

-- their map, in an image
abbrev pub blocks_in : Geometry → Stream ℕ → ImageState → BlockMap
blocks_in g allocation image = allocation_blocks g.cluster g.block (allocation_bytes g image.content allocation)

-- the blocks are told where the image is, and stand over it
abbrev pub seen_in : Geometry → Stream ℕ → ImageState → BlocksState
seen_in g allocation image = record {
  is_told = image.is_told;
  blocks = blocks_in g allocation image;
  size = g.block;
  footing = Some image;
}

-- a call over an image that is only read, whose writes have failed so often at least
pub record ReadsFrom {G T E : Type 0} (g : image.Ghosts G) (origin : E → Origin) (writes : ℕ) (old new : G)
    (result : Result T E) : Type 0 where
  pub seen : g.seen new ≡ g.seen old
  pub reads : (g.faults old).reads ≤ (g.faults new).reads
  pub counted : writes ≤ (g.faults new).writes
  pub cause : IfErr result (λ fault. Because (origin fault) (Rose (g.faults old).reads (g.faults new).reads) ⊥
      (Unit {0}))

-- ---- their map is finite, and its blocks have one size: the law of `Blocks`

unit-some : (cluster size : ℕ) → 512 ≤ cluster → 0 < vcn_unit cluster size
unfolding vcn_unit
unit-some cluster size least = some (nat_le cluster size)
  where
    some : (b : Bool) → 0 < (if b then cluster else 512)
    some true = omega arith
    some false = omega arith

pub seen_in-sized : (size : ℕ) (g : Geometry) (allocation : Stream ℕ) (image : ImageState) → CanRead size g allocation
    → IsSized (seen_in g allocation image)
seen_in-sized size g allocation image can =
    let all = blocks_of-sized (vcn_unit g.cluster g.block) g.block (allocation_bytes g image.content allocation)
    (unit-some g.cluster g.block can.least) in
    record { finite = λ told. all.finite refl; sizes = λ told. all.sizes refl }
