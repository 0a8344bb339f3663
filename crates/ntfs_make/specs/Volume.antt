-- The generated volume: its bytes, and the writes that make it from zeros. The words are ours.
use Rattle.std.specs.Prelude.{◌≤◌, ◌<◌, ◌+◌, ◌*◌, ℕ, List, [], ◌∷◌, ◌++◌, map}
use Rattle.std.specs.List.{range_with_len}
use Rattle.ntfs_base.specs.Frames.{Origin, writing, memory}
use Rattle.ntfs_base.specs.Writes.{Write, byte_from}
use Rattle.ntfs_make.specs.declared.fault.MakeFault.{MakeFault}
use Rattle.ntfs_make.specs.declared.fault.MakeFault.TheVariants.{WriteFault, NoMemory}
use Rattle.ntfs_make.specs.declared.shape.Shape.{Shape}
use Rattle.ntfs_make.specs.declared.table.Area.{Area}
use Rattle.ntfs_make.specs.Shape.{shape_of, sectors}
use Rattle.ntfs_make.specs.Areas.{areas_of}
use Rattle.ntfs_make.specs.Boot.{boot_sector}
use Rattle.ntfs_make.specs.Streams.{area_bytes}

-- an area's place in bytes, and what stands there
abbrev pub area_write : Shape → Area → Write
area_write shape area = record { place = area.start * shape.cluster; bytes = area_bytes shape area }

-- the copy of the boot sector behind the last sector that it tells
abbrev pub copy_write : Shape → Write
copy_write shape = record { place = sectors shape * 512; bytes = boot_sector shape }

unfoldable pub shape_writes : Shape → List Write
shape_writes shape = map (area_write shape) (areas_of shape) ++ copy_write shape ∷ []

-- all that isn't zero on the volume, area by area, and the copy of the boot sector
unfoldable pub volume_writes : ℕ → ℕ → ℕ → List Write
volume_writes seed clusters cluster = shape_writes (shape_of seed clusters cluster)

-- the volume: the bytes of its areas and of the copy at their places, and zeros elsewhere. No two of them share a
-- byte, as the law `areas_are_apart` says, so their order plays no part
unfoldable pub volume_bytes_of : ℕ → ℕ → ℕ → List ℕ
volume_bytes_of seed clusters cluster =
    map (λ place. byte_from (volume_writes seed clusters cluster) place 0) (range_with_len 0 ((clusters + 1) * cluster))

-- an area lies within the clusters of the volume
pub record LiesInVolume (shape : Shape) (area : Area) : Type 0 where
  pub small : area.length < 8589934592
  pub first : area.first_vcn ≤ 8589934592
  pub clusters : area.start + area.length ≤ shape.clusters

-- where a fault of the maker comes from
abbrev pub make_origin : MakeFault → Origin
make_origin WriteFault = writing
make_origin NoMemory = memory
