-- What is printed of a volume's geometry: nine lines, a label and a number each, the serial number in 16 hexadecimal
-- digits. The texts are this project's own.
use Rattle.std.specs.Prelude.{ℕ, List, ◌++◌}
use Rattle.ntfs_boot.specs.declared.geometry.Geometry.{Geometry}
use Rattle.ntfs_print.specs.Numbers.{number_line, serial_line}
use Rattle.ntfs_print.specs.declared.numbers.Label.TheVariants.{SectorSize, ClusterSize, RecordSize, IndexBlockSize, Sectors, Clusters, MftCluster, MirrorCluster}

-- the nine lines of a geometry; the word is ours
unfoldable pub info_lines : Geometry → List ℕ
info_lines g =
    number_line SectorSize g.sector
    ++ number_line ClusterSize g.cluster
    ++ number_line RecordSize g.record_size
    ++ number_line IndexBlockSize g.block
    ++ number_line Sectors g.sectors
    ++ number_line Clusters g.clusters
    ++ number_line MftCluster g.mft
    ++ number_line MirrorCluster g.mirror
    ++ serial_line g.serial
