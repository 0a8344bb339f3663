-- The header of a clone image: its fields by their places in bytes, and the first that is wrong. Places, names and the
-- first 18 bytes follow the image of the stock ntfsclone (its manual page, ntfsclone(8), "--save-image"); the ranges,
-- the order and the words are ours.
use Rattle.std.specs.Prelude.{◌≡◌, ◌≤◌, ◌<◌, ◌*◌, ◌^◌, ◌==◌, ◌&&◌, ◌||◌, ℕ, Bool, true, List, [], ◌∷◌, codes, length, take, nat_le, nat_lt, Result, Ok}
use Rattle.std.specs.Str.{bytes_eq}
use Rattle.ntfs_base.specs.Bytes.{number_at, piece_at}
use Rattle.ntfs_base.specs.Checks.{Check, check, first_wrong}
use Rattle.ntfs_base.specs.Frames.{must, ◌>>=◌}
use Rattle.ntfs_base.specs.Growth.{resize_of}
use Rattle.ntfs_boot.specs.Geometry.{refusal_or}
use Rattle.ntfs_clone.specs.declared.fault.CloneFault.{CloneFault}
use Rattle.ntfs_clone.specs.declared.fault.CloneFault.TheVariants.{BadClone}
use Rattle.ntfs_clone.specs.declared.header.CloneHeader.{CloneHeader}

-- ---- the fields

-- the 16 bytes with which every clone image begins: a zero and a name
abbrev pub clone_magic : List ℕ
clone_magic = 0 ∷ codes "ntfsclone-image"

-- the two bytes of the version: major 10, minor 0
abbrev pub clone_version : List ℕ
clone_version = 10 ∷ 0 ∷ []

-- `magic`, the 16 bytes at 0
unfoldable pub magic_of : List ℕ → List ℕ
magic_of bytes = take 16 bytes

-- `major_ver` and `minor_ver`, a byte each at 16 and 17
unfoldable pub version_of : List ℕ → List ℕ
version_of bytes = piece_at 16 2 bytes

-- the other fields; the comment at each is its name in the stock image, and its unit
unfoldable pub header_fields : List ℕ → CloneHeader
header_fields bytes = record {
  -- `cluster_size`, in bytes
  cluster = number_at 4 18 bytes;
  -- `device_size`, in bytes
  device = number_at 8 22 bytes;
  -- `nr_clusters`, in clusters
  clusters = number_at 8 30 bytes;
  -- `inuse`, in clusters
  in_use = number_at 8 38 bytes;
  -- `offset_to_image_data`, in bytes from the start of the image
  offset = number_at 4 46 bytes;
}

-- the bytes of the header up to the end of its last field; zeros stand for those that an image hasn't
abbrev pub fixed_part : List ℕ → List ℕ
fixed_part bytes = resize_of 50 bytes

-- ---- the ranges

-- a power of two from 512 to 65,536 bytes a cluster
unfoldable pub is_clone_cluster : ℕ → Bool
is_clone_cluster n =
    n == 512 || n == 1024 || n == 2048 || n == 4096 || n == 8192 || n == 16384 || n == 32768 || n == 65536

-- a device of at most 2^62 bytes, which holds all clusters; of an image in which their number is cut off, the first
-- part counts alone
unfoldable pub is_device : ℕ → CloneHeader → Bool
is_device len h = nat_le h.device (2 ^ 62) && (nat_lt len 38 || nat_le (h.clusters * h.cluster) h.device)

-- 1 to 2^32 - 1 clusters
unfoldable pub is_clone_count : ℕ → Bool
is_clone_count n = nat_lt 0 n && nat_lt n (2 ^ 32)

-- the fields in their order, each with its place: an image of this length has it whole, and it is right
abbrev pub clone_header_checks : ℕ → List ℕ → CloneHeader → List (Check CloneFault)
clone_header_checks len front h =
    check (nat_le 16 len && bytes_eq (magic_of front) clone_magic) (BadClone 0)
    ∷ check (nat_le 18 len && bytes_eq (version_of front) clone_version) (BadClone 16)
    ∷ check (nat_le 22 len && is_clone_cluster h.cluster) (BadClone 18)
    ∷ check (nat_le 30 len && is_device len h) (BadClone 22)
    ∷ check (nat_le 38 len && is_clone_count h.clusters) (BadClone 30)
    ∷ check (nat_le 46 len) (BadClone 38)
    ∷ check (nat_le 50 len && nat_le 50 h.offset) (BadClone 46)
    ∷ []

-- what the fields of an image of this length give
unfoldable pub header_in : ℕ → List ℕ → Result CloneHeader CloneFault
header_in len front =
    refusal_or (first_wrong (clone_header_checks len front (header_fields front))) (header_fields front)

-- the header with which the bytes begin. The bytes between the last field and the first command are skipped; they
-- count as one field at 50, which is refused where it is cut off.
unfoldable pub clone_header : List ℕ → Result CloneHeader CloneFault
clone_header bytes = do
  header ← header_in (length bytes) (fixed_part bytes)
  _ ← must (nat_le header.offset (length bytes)) (BadClone 50)
  Ok header

-- the ranges of a header that was read
pub record IsHeader (h : CloneHeader) : Type 0 where
  pub cluster : is_clone_cluster h.cluster ≡ true
  pub least_cluster : 512 ≤ h.cluster
  pub most_cluster : h.cluster ≤ 65536
  pub device : h.device ≤ 2 ^ 62
  pub held : h.clusters * h.cluster ≤ h.device
  pub some_clusters : 0 < h.clusters
  pub most_clusters : h.clusters < 2 ^ 32
  pub offset : 50 ≤ h.offset
  pub most_offset : h.offset < 2 ^ 32
