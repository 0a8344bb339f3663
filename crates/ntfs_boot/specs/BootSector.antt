-- The fields of a boot sector that tell the geometry, by their places in bytes (the Linux-NTFS documentation, "$Boot").
use Rattle.std.specs.Prelude.{ℕ, List, codes, take, drop}
use Rattle.ntfs_base.specs.Bytes.{number_at}
use Rattle.ntfs_boot.specs.declared.boot_sector.BootSector.{BootSector}

-- `oem_id`, the eight bytes at 0x03
unfoldable pub oem_id_of : List ℕ → List ℕ
oem_id_of image = take 8 (drop 3 image)

-- what they are on every NTFS volume: the name and four spaces
abbrev pub ntfs_id : List ℕ
ntfs_id = codes "NTFS    "

-- the other fields; the comment at each is its name in the documentation, and its unit
unfoldable pub fields_of : List ℕ → BootSector
fields_of image = record {
  -- `bytes_per_sector`, in bytes
  bytes_per_sector = number_at 2 0x0B image;
  -- `sectors_per_cluster`, in sectors
  sectors_per_cluster = number_at 1 0x0D image;
  -- `number_of_sectors`, in sectors
  sectors = number_at 8 0x28 image;
  -- `mft_lcn`, the number of a cluster
  mft = number_at 8 0x30 image;
  -- `mftmirr_lcn`, the number of a cluster
  mirror = number_at 8 0x38 image;
  -- `clusters_per_mft_record`, a signed byte: clusters, or below 0 a power of two of bytes
  record_code = number_at 1 0x40 image;
  -- `clusters_per_index_record`, likewise
  block_code = number_at 1 0x44 image;
  -- `volume_serial_number`
  serial = number_at 8 0x48 image;
}
