-- The geometry of a volume, and the first thing that is wrong with a boot sector (the Linux-NTFS documentation,
-- "$Boot"). The ranges are this project's own.
use Rattle.std.specs.Prelude.{◌≡◌, ◌+◌, ◌-◌, ◌*◌, ◌/◌, ◌%◌, ◌^◌, ◌<◌, ◌≤◌, ◌⊎◌, ◌==◌, ◌&&◌, ◌||◌, ℕ, Bool, true, false, List, [], ◌∷◌, length, nat_lt, nat_le, if◌then◌else◌, Option, Some, None, Result, Ok, Err}
use Rattle.std.specs.Str.{bytes_eq}
use Rattle.ntfs_base.specs.Bytes.{clusters_for}
use Rattle.ntfs_base.specs.Checks.{Check, check, first_wrong}
use Rattle.ntfs_base.specs.Frames.{Origin, content, reading, must, refused_as, ◌>>=◌}
use Rattle.ntfs_boot.specs.BootSector.{oem_id_of, ntfs_id, fields_of}
use Rattle.ntfs_boot.specs.declared.boot_sector.BootSector.{BootSector}
use Rattle.ntfs_boot.specs.declared.geometry.Geometry.{Geometry}
use Rattle.ntfs_boot.specs.declared.geometry.BootFault.{BootFault}
use Rattle.ntfs_boot.specs.declared.geometry.BootFault.TheVariants as boot
use Rattle.ntfs_boot.specs.declared.volume.ImageFault.{ImageFault}
use Rattle.ntfs_boot.specs.declared.volume.ImageFault.TheVariants as image

-- ---- sizes and numbers

-- bytes of a cluster
abbrev pub cluster_size : BootSector → ℕ
cluster_size b = b.bytes_per_sector * b.sectors_per_cluster

-- the size that a signed byte k tells: k clusters where it is above 0, 2 ^ -k bytes where it is below; 2^32 bytes or
-- more, which nothing has, count as 0
unfoldable pub coded_size : ℕ → ℕ → ℕ
coded_size code cluster = if nat_lt code 128 then code * cluster else (if nat_lt 224 code then 2 ^ (256 - code) else 0)

-- bytes of a file record, and of an index block
abbrev pub record_size : BootSector → ℕ
record_size b = coded_size b.record_code (cluster_size b)

abbrev pub block_size : BootSector → ℕ
block_size b = coded_size b.block_code (cluster_size b)

-- the number of clusters: sectors that fill no cluster don't count
abbrev pub cluster_count : BootSector → ℕ
cluster_count b = b.sectors / b.sectors_per_cluster

-- 512 to 4,096 bytes a sector
unfoldable pub is_sector_size : ℕ → Bool
is_sector_size n = n == 512 || n == 1024 || n == 2048 || n == 4096

-- a power of two from 1 to 128 sectors a cluster
unfoldable pub is_sector_count : ℕ → Bool
is_sector_count n = n == 1 || n == 2 || n == 4 || n == 8 || n == 16 || n == 32 || n == 64 || n == 128

-- 1,024 to 4,096 bytes a record
unfoldable pub is_record_size : ℕ → Bool
is_record_size n = n == 1024 || n == 2048 || n == 4096

-- a power of two from 1,024 to 65,536 bytes an index block
unfoldable pub is_block_size : ℕ → Bool
is_block_size n = n == 1024 || n == 2048 || n == 4096 || n == 8192 || n == 16384 || n == 32768 || n == 65536

-- 1 to 2^32 - 1 clusters
unfoldable pub is_cluster_count : ℕ → Bool
is_cluster_count n = nat_lt 0 n && nat_lt n (2 ^ 32)

-- bytes from a cluster on lie among the clusters
unfoldable pub lies_within : ℕ → ℕ → ℕ → ℕ → Bool
lies_within first bytes c count = nat_le (first + clusters_for bytes c) count

-- ---- the boot sector

-- the eight fields in their order, each with the refusal of a wrong one
abbrev pub checks : BootSector → List (Check BootFault)
checks b =
    check (is_sector_size b.bytes_per_sector) (boot.BadGeometry 1 b.bytes_per_sector)
    ∷ check (is_sector_count b.sectors_per_cluster) (boot.BadGeometry 2 b.sectors_per_cluster)
    ∷ check (nat_le (cluster_size b) 65536) (boot.BadGeometry 3 (cluster_size b))
    ∷ check (is_record_size (record_size b)) (boot.BadGeometry 4 b.record_code)
    ∷ check (is_block_size (block_size b)) (boot.BadGeometry 5 b.block_code)
    ∷ check (is_cluster_count (cluster_count b)) (boot.BadGeometry 6 b.sectors)
    ∷ check (lies_within b.mft (record_size b) (cluster_size b) (cluster_count b)) (boot.BadGeometry 7 b.mft)
    ∷ check (lies_within b.mirror (4 * record_size b) (cluster_size b) (cluster_count b)) (boot.BadGeometry 8 b.mirror)
    ∷ []

-- the geometry that good fields give
abbrev pub geometry_of : BootSector → Geometry
geometry_of b = record {
  sector = b.bytes_per_sector;
  cluster = cluster_size b;
  record_size = record_size b;
  block = block_size b;
  sectors = b.sectors;
  clusters = cluster_count b;
  mft = b.mft;
  mirror = b.mirror;
  serial = b.serial;
}

-- a value, unless a refusal stands before it
abbrev pub refusal_or : {X E : Type 0} → Option E → X → Result X E
refusal_or None x = Ok x
refusal_or (Some fault) x = Err fault

-- what the fields of a boot sector give
unfoldable pub boot_geometry : BootSector → Result Geometry BootFault
boot_geometry b = refusal_or (first_wrong (checks b)) (geometry_of b)

-- what the first 512 bytes of an image give
unfoldable pub sector_geometry : List ℕ → Result Geometry BootFault
sector_geometry bytes = if bytes_eq (oem_id_of bytes) ntfs_id then boot_geometry (fields_of bytes) else Err boot.NotNtfs

-- ---- the image

-- the bytes of all clusters
abbrev pub bytes_of_clusters : Geometry → ℕ
bytes_of_clusters g = g.clusters * g.cluster

-- a refusal of the boot sector as one of the image
abbrev pub image_fault : BootFault → ImageFault
image_fault boot.NotNtfs = image.NotNtfs
image_fault (boot.BadGeometry field value) = image.BadGeometry field value

-- a length of at least so many bytes
abbrev pub has_bytes : ℕ → ℕ → Result (Unit {0}) ImageFault
has_bytes len need = must (nat_le need len) (image.ImageShort len need)

-- what the boot sector of an image of this length gives, which has to have all its clusters
abbrev pub geometry_in : ℕ → List ℕ → Result Geometry ImageFault
geometry_in len sector = do
  g ← refused_as image_fault (sector_geometry sector)
  _ ← has_bytes len (bytes_of_clusters g)
  Ok g

-- the geometry of an image, or its first fault: too short for a boot sector, not NTFS, the first wrong field, too
-- short for its clusters
unfoldable pub volume_geometry : List ℕ → Result Geometry ImageFault
volume_geometry bytes = do
  _ ← has_bytes (length bytes) 512
  geometry_in (length bytes) bytes

-- where a refusal comes from
abbrev pub image_origin : ImageFault → Origin
image_origin image.ReadFault = reading
image_origin other = content

-- ---- what is known of an answer, also where the image doesn't tell its content

-- the bytes of a cluster of so many sectors of so many bytes
pub record IsCluster (cluster sector count : ℕ) : Type 0 where
  pub sector_size : is_sector_size sector ≡ true
  pub sector_count : is_sector_count count ≡ true
  pub product : cluster ≡ sector * count
  pub most : cluster ≤ 65536

-- the rules of the boot sector, and then what follows from them of sizes and numbers
pub record IsGood (g : Geometry) : Type 0 where
  pub sectors_per_cluster : ℕ
  pub cluster : IsCluster g.cluster g.sector sectors_per_cluster
  pub record_size : is_record_size g.record_size ≡ true
  pub block : is_block_size g.block ≡ true
  pub clusters : g.clusters ≡ g.sectors / sectors_per_cluster
  pub mft : g.mft + clusters_for g.record_size g.cluster ≤ g.clusters
  pub mirror : g.mirror + clusters_for (4 * g.record_size) g.cluster ≤ g.clusters
  pub least_sector : 512 ≤ g.sector
  pub most_sector : g.sector ≤ 4096
  pub least_cluster : 512 ≤ g.cluster
  pub most_cluster : g.cluster ≤ 65536
  pub least_record : 1024 ≤ g.record_size
  pub most_record : g.record_size ≤ 4096
  pub record_strides : g.record_size % 512 ≡ 0
  pub least_block : 1024 ≤ g.block
  pub most_block : g.block ≤ 65536
  pub block_strides : g.block % 512 ≡ 0
  pub some_clusters : 0 < g.clusters
  pub most_clusters : g.clusters < 2 ^ 32
  pub most_sectors : g.sectors < 2 ^ 64
  pub most_serial : g.serial < 2 ^ 64

-- a good geometry of an image that has its clusters
pub record IsOpened (size : ℕ) (g : Geometry) : Type 0 where
  pub good : IsGood g
  pub held : bytes_of_clusters g ≤ size

-- a field of the boot sector and its value, which breaks the field's rule: by itself, or beside others that keep theirs
pub data IsWrong : ℕ → ℕ → Type 0 where
  wrong_sector : (sector : ℕ) → sector < 2 ^ 16 → is_sector_size sector ≡ false → IsWrong 1 sector
  wrong_count : (count : ℕ) → count < 2 ^ 8 → is_sector_count count ≡ false → IsWrong 2 count
  wrong_cluster : (sector count : ℕ) → is_sector_size sector ≡ true → is_sector_count count ≡ true
      → 65536 < sector * count → IsWrong 3 (sector * count)
  wrong_record : (code c s n : ℕ) → code < 2 ^ 8 → IsCluster c s n
      → is_record_size (coded_size code c) ≡ false → IsWrong 4 code
  wrong_block : (code c s n : ℕ) → code < 2 ^ 8 → IsCluster c s n
      → is_block_size (coded_size code c) ≡ false → IsWrong 5 code
  wrong_sectors : (sectors c s n : ℕ) → sectors < 2 ^ 64 → IsCluster c s n
      → is_cluster_count (sectors / n) ≡ false → IsWrong 6 sectors
  wrong_mft : (mft size c s n count : ℕ) → mft < 2 ^ 64 → IsCluster c s n → is_record_size size ≡ true
      → is_cluster_count count ≡ true → lies_within mft size c count ≡ false → IsWrong 7 mft
  wrong_mirror : (mirror size c s n count : ℕ) → mirror < 2 ^ 64 → IsCluster c s n → is_record_size size ≡ true
      → is_cluster_count count ≡ true → lies_within mirror (4 * size) c count ≡ false → IsWrong 8 mirror

-- a refusal of a boot sector
abbrev pub IsBootRefusal : BootFault → Type 0
IsBootRefusal boot.NotNtfs = Unit {0}
IsBootRefusal (boot.BadGeometry field value) = IsWrong field value

-- the bytes that an image of this length needs and hasn't: those of a boot sector, or of a volume's clusters
abbrev pub IsMissing : ℕ → ℕ → Type 0
IsMissing len need =
    (len < need) × ((need ≡ 512) ⊎ ((512 ≤ len) × (g : Geometry) × IsGood g × (need ≡ bytes_of_clusters g)))

-- a refusal of an image of this length
abbrev pub IsRefusal : ℕ → ImageFault → Type 0
IsRefusal len image.NotNtfs = 512 ≤ len
IsRefusal len (image.BadGeometry field value) = (512 ≤ len) × IsWrong field value
IsRefusal len (image.ImageShort told need) = (told ≡ len) × IsMissing len need
IsRefusal len image.ReadFault = 512 ≤ len
