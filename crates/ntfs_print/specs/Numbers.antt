-- Lines of a label and a number. The texts are this project's own.
use Rattle.std.specs.Prelude.{ℕ, List, [], ◌∷◌, ◌++◌, codes}
use Rattle.std.specs.Fmt.{decimal}
use Rattle.std.specs.Int.{w64, to_be_bytes}
use Rattle.hex.specs.Hex.{encode_lower}
use Rattle.ntfs_print.specs.declared.numbers.Label.{Label}
use Rattle.ntfs_print.specs.declared.numbers.Label.TheVariants.{SectorSize, ClusterSize, RecordSize, IndexBlockSize, Sectors, Clusters, MftCluster, MirrorCluster, Serial, Owned, Bad, Free}

-- the text in front of each value; the word is ours
unfoldable pub label_text : Label → List ℕ
label_text SectorSize = codes "sector size: "
label_text ClusterSize = codes "cluster size: "
label_text RecordSize = codes "record size: "
label_text IndexBlockSize = codes "index block size: "
label_text Sectors = codes "sectors: "
label_text Clusters = codes "clusters: "
label_text MftCluster = codes "mft cluster: "
label_text MirrorCluster = codes "mirror cluster: "
label_text Serial = codes "serial: "
label_text Owned = codes "owned: "
label_text Bad = codes "bad: "
label_text Free = codes "free: "

-- the line feed
abbrev pub line_end : List ℕ
line_end = 10 ∷ []

-- a label and a decimal number
abbrev pub number_line : Label → ℕ → List ℕ
number_line label n = (label_text label ++ decimal n) ++ line_end

-- the serial number in 16 lower-case hexadecimal digits
abbrev pub serial_line : ℕ → List ℕ
serial_line n = (label_text Serial ++ encode_lower (to_be_bytes w64 n)) ++ line_end
