-- The boot sector (the Linux-NTFS documentation, "$Boot"). The names at the fields are those of the layout. The words
-- are ours.
use Rattle.std.specs.Prelude.{◌-◌, ◌/◌, ℕ, List, [], ◌∷◌, ◌++◌}
use Rattle.ntfs_make.specs.declared.shape.Shape.{Shape}
use Rattle.ntfs_make.specs.declared.field.Field.TheVariants.{U8, U16, U64, Zeros}
use Rattle.ntfs_make.specs.Fields.{fields_bytes}
use Rattle.ntfs_make.specs.Shape.{sectors}
use Rattle.ntfs_make.specs.Areas.{area_at}

-- the fields up to the number of sectors
unfoldable pub boot_front : Shape → List ℕ
boot_front shape =
    fields_bytes (
    U8 0xEB  -- 0x00 jump
    ∷ U8 0x52
    ∷ U8 0x90
    ∷ U64 0x202020205346544E  -- 0x03 oem_id, `NTFS` and four spaces
    ∷ U16 512  -- 0x0B bytes_per_sector
    ∷ U8 (shape.cluster / 512)  -- 0x0D sectors_per_cluster
    ∷ Zeros (0x28 - 0x0E)
    ∷ [])

-- the boot sector
unfoldable pub boot_sector : Shape → List ℕ
boot_sector shape =
    boot_front shape
    ++ fields_bytes (
    U64 (sectors shape)  -- 0x28 number_of_sectors
    ∷ U64 (area_at shape 1).start  -- 0x30 mft_lcn
    ∷ U64 (area_at shape 2).start  -- 0x38 mftmirr_lcn
    ∷ U8 0xF6  -- 0x40 clusters_per_mft_record, the code of 1,024 bytes
    ∷ Zeros 3
    ∷ U8 0xF4  -- 0x44 clusters_per_index_record, the code of 4,096 bytes
    ∷ Zeros 3
    ∷ U64 shape.seed  -- 0x48 volume_serial_number
    ∷ Zeros (0x1FE - 0x50)
    ∷ U8 0x55  -- 0x1FE end_of_sector_marker
    ∷ U8 0xAA
    ∷ [])
