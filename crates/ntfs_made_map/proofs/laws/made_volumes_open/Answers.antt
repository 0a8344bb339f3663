use Rattle.std.proofs.Common.{refl}
use Rattle.ntfs_make.specs.Shape.{shape_of}
use Rattle.ntfs_made_map.specs.Opened.{made_geometry, made_map}
use Rattle.ntfs_made_map.proofs.ImageLemmas.{record-read}
use Rattle.ntfs_made_map.proofs.BootLemmas.{geometry-told}
use Rattle.ntfs_made_map.proofs.MapLemmas.{opened-made}
use Rattle.ntfs_made_map.proofs.laws.made_volumes_open.Goals as goal
use Rattle.ntfs_volume.specs.Records.{raw_record}

pub returns-clause-geometry : goal.returns-clause-geometry
returns-clause-geometry c seed clusters cluster small is = geometry-told (shape_of seed clusters cluster) small is

pub returns-clause-opened : goal.returns-clause-opened
returns-clause-opened c seed clusters cluster small is = opened-made (shape_of seed clusters cluster) small is

pub returns-clause-records : goal.returns-clause-records
unfolding made_geometry made_map raw_record
returns-clause-records c seed clusters cluster r row is there =
    record-read (shape_of seed clusters cluster) r row is there

pub returns-clause-count : goal.returns-clause-count
unfolding made_geometry made_map
returns-clause-count c seed clusters cluster = refl
