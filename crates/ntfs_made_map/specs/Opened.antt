-- What a made volume is opened as: the geometry that its boot sector tells, and $MFT's map. The words are ours.
use Rattle.std.specs.Prelude.{[], ◌∷◌}
use Rattle.ntfs_boot.specs.declared.geometry.Geometry.{Geometry}
use Rattle.ntfs_volume.specs.MftMap.{Map}
use Rattle.ntfs_volume.specs.Opened.{Opened}
use Rattle.ntfs_make.specs.declared.shape.Shape.{Shape}
use Rattle.ntfs_make.specs.Areas.{area_at}
use Rattle.ntfs_make.specs.Laws.{clusters_of_areas}
use Rattle.ntfs_make.specs.Shape.{sectors}

-- sectors of 512 bytes, records of 1,024 and index blocks of 4,096; $MFT begins with area 1, its mirror with area 2;
-- the serial number is the seed
unfoldable pub made_geometry : Shape → Geometry
made_geometry shape = record {
  sector = 512;
  cluster = shape.cluster;
  record_size = 1024;
  block = 4096;
  sectors = sectors shape;
  clusters = shape.clusters;
  mft = (area_at shape 1).start;
  mirror = (area_at shape 2).start;
  serial = shape.seed;
}

-- the clusters of areas 1 and 7, which have 64 records
unfoldable pub made_map : Shape → Map
made_map shape = record { clusters = clusters_of_areas shape (1 ∷ 7 ∷ []); size = 65536; valid = 65536 }

unfoldable pub made_opened : Shape → Opened
made_opened shape = record { geometry = made_geometry shape; map = made_map shape }
