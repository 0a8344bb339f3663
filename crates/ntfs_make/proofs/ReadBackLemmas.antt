-- Fields are read from the places at which they were put.
use Rattle.std.proofs.Common.{◌≡◌, ◌<◌, ◌+◌, ◌-◌, ◌^◌, ◌/◌, ◌%◌, ℕ, List, [], ◌∷◌, ◌++◌, length, refl, sym, ap, ◌∙◌, subst, append_assoc, arith}
use Rattle.std.proofs.lemmas.List.{length-append, length-replicate}
use Rattle.byteorder.specs.Numbers.{length-bytes_low_first}
use Rattle.ntfs_base.proofs.BytesLemmas.{number_at-bytes}
use Rattle.ntfs_boot.specs.BootSector.{ntfs_id, oem_id_of, fields_of}
use Rattle.ntfs_fixup.specs.Fixups.{array_offset, array_count}
use Rattle.ntfs_make.specs.declared.field.Field.{Field}
use Rattle.ntfs_make.specs.declared.field.Field.TheVariants.{U8, U16, U32, U64, Zeros}
use Rattle.ntfs_make.specs.declared.shape.Shape.{Shape}
use Rattle.ntfs_make.specs.declared.table.Extent.{Extent}
use Rattle.ntfs_make.specs.declared.table.ListEntry.{ListEntry}
use Rattle.ntfs_make.specs.Areas.{area_at}
use Rattle.ntfs_make.specs.Attributes.{allocated_size_of, extent_lowest, extent_next, list_entry_bytes, listed_lowest, nonresident_bytes, pairs_place, resident_bytes, sizes_bytes, tail_bytes}
use Rattle.ntfs_make.specs.Boot.{boot_front, boot_sector}
use Rattle.ntfs_make.specs.Extents.{size_bytes}
use Rattle.ntfs_make.specs.Fields.{field_bytes, fields_bytes, utf16_bytes, with_padding, zero_bytes}
use Rattle.ntfs_make.specs.Index.{clusters_per_block, entry_bytes, file_name_bytes, flag_of, reference, root_bytes, root_entries}
use Rattle.ntfs_make.specs.ReadBack.{AllFit, Fits, FitsBoot, FitsEntry, FitsExtent, FitsHeader, FitsListEntry, FitsResident, FitsRoot, IsBootOf, IsEntryOf, IsExtentOf, IsHeaderOf, IsListEntryOf, IsResidentOf, IsRootOf, ReadsField, ReadsFields, width}
use Rattle.ntfs_make.specs.Records.{base_reference, header_bytes, link_count}
use Rattle.ntfs_make.specs.Shape.{sectors}
use Rattle.ntfs_make.specs.Table.{NameValue, RootValue, RowValue}

length-field : (field : Field) → length (field_bytes field) ≡ width field
unfolding zero_bytes
length-field (U8 number) = length-bytes_low_first 0 1 number
length-field (U16 number) = length-bytes_low_first 0 2 number
length-field (U32 number) = length-bytes_low_first 0 4 number
length-field (U64 number) = length-bytes_low_first 0 8 number
length-field (Zeros count) = length-replicate count 0

field-read : (field : Field) (front rest : List ℕ) → Fits field
    → ReadsField field (length front) ((front ++ field_bytes field) ++ rest)
field-read (U8 number) front rest fits = number_at-bytes 1 number front rest fits
field-read (U16 number) front rest fits = number_at-bytes 2 number front rest fits
field-read (U32 number) front rest fits = number_at-bytes 4 number front rest fits
field-read (U64 number) front rest fits = number_at-bytes 8 number front rest fits
field-read (Zeros count) front rest fits = tt

-- each field of a list is read behind those before it
pub fields-read : (fields : List Field) (front rest : List ℕ) → AllFit fields
    → ReadsFields fields (length front) (front ++ (fields_bytes fields ++ rest))
unfolding fields_bytes
fields-read [] front rest fits = tt
fields-read (field ∷ fields) front rest (fit, fits) =
    let same : (front ++ field_bytes field) ++ (fields_bytes fields ++ rest)
    ≡ front ++ ((field_bytes field ++ fields_bytes fields) ++ rest)
    = append_assoc front (field_bytes field) (fields_bytes fields ++ rest)
    ∙ ap (λ bytes. front ++ bytes) (sym (append_assoc (field_bytes field) (fields_bytes fields) rest)) in
    let behind : length (front ++ field_bytes field) ≡ length front + width field
    = length-append front (field_bytes field) ∙ ap (λ n. length front + n) (length-field field) in
    let first = subst (ReadsField field (length front)) same (field-read field front (fields_bytes fields ++ rest) fit) in
    let others = fields-read fields (front ++ field_bytes field) rest fits in (
      first,
      subst (ReadsFields fields (length front + width field)) same
          (subst (λ place. ReadsFields fields place ((front ++ field_bytes field) ++ (fields_bytes fields ++ rest))) behind others),
    )

pub header-read : (row : RowValue) (size : ℕ) (rest : List ℕ) → FitsHeader row size
    → IsHeaderOf row size (header_bytes row size ++ rest)
unfolding header_bytes array_offset array_count
header-read row size rest fits =
    let r = fields-read (U32 0x454C4946 ∷ U16 0x30 ∷ U16 3 ∷ U64 0 ∷ U16 1 ∷ U16 (link_count row.attributes) ∷ U16 0x38
    ∷ U16 row.flags ∷ U32 (0x38 + size + 8) ∷ U32 1024 ∷ U64 (base_reference row.base)
    ∷ U16 (length row.attributes) ∷ U16 0 ∷ U32 row.number ∷ U64 0 ∷ []) [] rest (
      omega arith,
      (
        omega arith,
        (
          omega arith,
          (
            omega arith,
            (
              omega arith,
              (
                fits.links,
                (
                  omega arith,
                  (
                    fits.flags,
                    (fits.in_use, (omega arith, (fits.base, (fits.count, (omega arith, (fits.number, (omega arith, tt))))))),
                  ),
                ),
              ),
            ),
          ),
        ),
      ),
    ) in
    record {
      array_offset = r.1.0;
      array_count = r.1.1.0;
      log_number = r.1.1.1.0;
      sequence = r.1.1.1.1.0;
      links = r.1.1.1.1.1.0;
      first_attribute = r.1.1.1.1.1.1.0;
      flags = r.1.1.1.1.1.1.1.0;
      in_use = r.1.1.1.1.1.1.1.1.0;
      allocated = r.1.1.1.1.1.1.1.1.1.0;
      base = r.1.1.1.1.1.1.1.1.1.1.0;
      next_instance = r.1.1.1.1.1.1.1.1.1.1.1.0;
      number = r.1.1.1.1.1.1.1.1.1.1.1.1.1.0;
    }

pub resident-read : (kind : ℕ) (name : List ℕ) (instance : ℕ) (value rest : List ℕ) → FitsResident kind name instance value
    → IsResidentOf kind name instance value (resident_bytes kind name instance value ++ rest)
unfolding resident_bytes
resident-read kind name instance value rest fits =
    let tail = with_padding (with_padding (utf16_bytes name) ++ value) in
    let fields = U32 kind ∷ U32 (24 + length tail) ∷ U8 0 ∷ U8 (length name) ∷ U16 24 ∷ U16 0 ∷ U16 instance
    ∷ U32 (length value) ∷ U16 (24 + length (with_padding (utf16_bytes name))) ∷ U16 0 ∷ [] in
    let r = subst (ReadsFields fields 0) (sym (append_assoc (fields_bytes fields) tail rest))
    (fields-read fields [] (tail ++ rest) (
      fits.kind_fits,
      (
        fits.length_fits,
        (
          omega arith,
          (
            fits.name_fits,
            (
              omega arith,
              (
                omega arith,
                (fits.instance_fits, (fits.value_fits, (fits.offset_fits, (omega arith, tt)))),
              ),
            ),
          ),
        ),
      ),
    )) in
    record {
      kind_is = r.0;
      length_is = r.1.0;
      residence = r.1.1.0;
      name_units = r.1.1.1.0;
      name_offset = r.1.1.1.1.0;
      flags = r.1.1.1.1.1.0;
      instance_is = r.1.1.1.1.1.1.0;
      value_length = r.1.1.1.1.1.1.1.0;
      value_offset = r.1.1.1.1.1.1.1.1.0;
    }

-- fields in two rows are fields in one
two-rows : (some others : List Field) → fields_bytes (some ++ others) ≡ fields_bytes some ++ fields_bytes others
unfolding fields_bytes
two-rows [] others = refl
two-rows (field ∷ some) others =
    ap (λ bytes. field_bytes field ++ bytes) (two-rows some others)
    ∙ sym (append_assoc (field_bytes field) (fields_bytes some) (fields_bytes others))

pub extent-read : (shape : Shape) (kind : ℕ) (name : List ℕ) (instance : ℕ) (extent : Extent) (rest : List ℕ)
    → FitsExtent shape kind name instance extent
    → IsExtentOf shape kind name instance extent (nonresident_bytes shape kind name instance extent ++ rest)
unfolding nonresident_bytes sizes_bytes
extent-read shape kind name instance extent rest fits =
    let tail = tail_bytes shape name extent in
    let front = U32 kind ∷ U32 (64 + length tail) ∷ U8 1 ∷ U8 (length name) ∷ U16 64 ∷ U16 extent.flags ∷ U16 instance ∷ [] in
    let sizes = U64 (extent_lowest shape extent) ∷ U64 ((extent_next shape extent + (2 ^ 64 - 1)) % 2 ^ 64)
    ∷ U16 (pairs_place shape name extent) ∷ U16 extent.unit ∷ U32 0 ∷ U64 (allocated_size_of shape extent)
    ∷ U64 (size_bytes shape extent.size) ∷ U64 (size_bytes shape extent.initialised) ∷ [] in
    let one : fields_bytes (front ++ sizes) ++ (tail ++ rest)
    ≡ ((fields_bytes front ++ fields_bytes sizes) ++ tail) ++ rest
    = ap (λ bytes. bytes ++ (tail ++ rest)) (two-rows front sizes)
    ∙ sym (append_assoc (fields_bytes front ++ fields_bytes sizes) tail rest) in
    let r = subst (ReadsFields (front ++ sizes) 0) one (fields-read (front ++ sizes) [] (tail ++ rest) (
      fits.kind_fits,
      (
        fits.length_fits,
        (
          omega arith,
          (
            fits.name_fits,
            (
              omega arith,
              (
                fits.flags_fits,
                (
                  fits.instance_fits,
                  (
                    fits.lowest_fits,
                    (
                      fits.highest_fits,
                      (
                        fits.place_fits,
                        (
                          fits.unit_fits,
                          (
                            omega arith,
                            (fits.allocated_fits, (fits.size_fits, (fits.initialised_fits, tt))),
                          ),
                        ),
                      ),
                    ),
                  ),
                ),
              ),
            ),
          ),
        ),
      ),
    )) in
    record {
      kind_is = r.0;
      length_is = r.1.0;
      residence = r.1.1.0;
      name_units = r.1.1.1.0;
      name_offset = r.1.1.1.1.0;
      flags = r.1.1.1.1.1.0;
      instance_is = r.1.1.1.1.1.1.0;
      lowest = r.1.1.1.1.1.1.1.0;
      highest = r.1.1.1.1.1.1.1.1.0;
      pairs_offset = r.1.1.1.1.1.1.1.1.1.0;
      allocated = r.1.1.1.1.1.1.1.1.1.1.1.1.0;
      size = r.1.1.1.1.1.1.1.1.1.1.1.1.1.0;
      initialised = r.1.1.1.1.1.1.1.1.1.1.1.1.1.1.0;
    }

pub list-entry-read : (shape : Shape) (entry : ListEntry) (rest : List ℕ) → FitsListEntry shape entry
    → IsListEntryOf shape entry (list_entry_bytes shape entry ++ rest)
unfolding list_entry_bytes
list-entry-read shape entry rest fits =
    let r = fields-read (U32 entry.kind ∷ U16 32 ∷ U8 0 ∷ U8 26 ∷ U64 (listed_lowest shape entry.lowest)
    ∷ U64 (reference entry.number) ∷ U16 entry.instance ∷ Zeros 6 ∷ []) [] rest
    (fits.kind, (omega arith, (omega arith, (omega arith, (fits.lowest, (fits.number, (fits.instance, (tt, tt)))))))) in
    record {
      kind = r.0;
      size = r.1.0;
      name_units = r.1.1.0;
      name_offset = r.1.1.1.0;
      lowest = r.1.1.1.1.0;
      number = r.1.1.1.1.1.0;
      instance = r.1.1.1.1.1.1.0;
    }

pub root-read : (shape : Shape) (node : RootValue) (rest : List ℕ) → clusters_per_block shape.cluster < 2 ^ 8
    → flag_of node < 2 ^ 8 → FitsRoot node → IsRootOf node (root_bytes shape node ++ rest)
unfolding root_bytes
root-read shape node rest unit flag fits =
    let size = 16 + length (root_entries node) in
    let fields = U32 0x30 ∷ U32 1 ∷ U32 4096 ∷ U8 (clusters_per_block shape.cluster) ∷ Zeros 3 ∷ U32 16 ∷ U32 size
    ∷ U32 size ∷ U8 (flag_of node) ∷ Zeros 3 ∷ [] in
    let r = subst (ReadsFields fields 0) (sym (append_assoc (fields_bytes fields) (root_entries node) rest))
    (fields-read fields [] (root_entries node ++ rest)
    (omega arith, (omega arith, (omega arith, (unit, (tt, (omega arith, (fits, (fits, (flag, (tt, tt))))))))))) in
    record { kind = r.0; collation = r.1.0; block_size = r.1.1.0; entries = r.1.1.1.1.1.0; size = r.1.1.1.1.1.1.0 }

pub entry-read : (number : ℕ) (file : NameValue) (rest : List ℕ) → FitsEntry number file
    → IsEntryOf number file (entry_bytes number file ++ rest)
unfolding entry_bytes
entry-read number file rest fits =
    let key = with_padding (file_name_bytes file) in
    let fields = U64 (reference number) ∷ U16 (16 + length key) ∷ U16 (length (file_name_bytes file)) ∷ U16 0 ∷ U16 0 ∷ [] in
    let r = subst (ReadsFields fields 0) (sym (append_assoc (fields_bytes fields) key rest))
    (fields-read fields [] (key ++ rest)
    (fits.file_fits, (fits.length_fits, (fits.key_fits, (omega arith, (omega arith, tt)))))) in
    record { file_is = r.0; length_is = r.1.0; key_is = r.1.1.0; flags = r.1.1.1.0 }

-- the boot sector's fields in one row
boot_row : Shape → List Field
boot_row shape =
    U8 0xEB ∷ U8 0x52 ∷ U8 0x90 ∷ U64 0x202020205346544E ∷ U16 512 ∷ U8 (shape.cluster / 512) ∷ Zeros 26
    ∷ U64 (sectors shape) ∷ U64 (area_at shape 1).start ∷ U64 (area_at shape 2).start ∷ U8 0xF6 ∷ Zeros 3 ∷ U8 0xF4
    ∷ Zeros 3 ∷ U64 shape.seed ∷ Zeros 430 ∷ U8 0x55 ∷ U8 0xAA ∷ []

boot-row : (shape : Shape) → boot_sector shape ≡ fields_bytes (boot_row shape)
unfolding boot_sector boot_front boot_row
boot-row shape =
    sym (two-rows (U8 0xEB ∷ U8 0x52 ∷ U8 0x90 ∷ U64 0x202020205346544E ∷ U16 512 ∷ U8 (shape.cluster / 512) ∷ Zeros 26 ∷ [])
    (U64 (sectors shape) ∷ U64 (area_at shape 1).start ∷ U64 (area_at shape 2).start ∷ U8 0xF6 ∷ Zeros 3 ∷ U8 0xF4
    ∷ Zeros 3 ∷ U64 shape.seed ∷ Zeros 430 ∷ U8 0x55 ∷ U8 0xAA ∷ []))

boot-name : (shape : Shape) (rest : List ℕ) → oem_id_of (boot_sector shape ++ rest) ≡ ntfs_id
unfolding boot_sector boot_front fields_bytes oem_id_of
boot-name shape rest = refl

pub boot-read : (shape : Shape) (rest : List ℕ) → FitsBoot shape → IsBootOf shape (boot_sector shape ++ rest)
unfolding fields_of boot_row
boot-read shape rest fits =
    let r = subst (λ bytes. ReadsFields (boot_row shape) 0 (bytes ++ rest)) (sym (boot-row shape))
    (fields-read (boot_row shape) [] rest (
      omega arith,
      (
        omega arith,
        (
          omega arith,
          (
            omega arith,
            (
              omega arith,
              (
                fits.cluster,
                (
                  tt,
                  (
                    fits.sector_count,
                    (fits.mft, (fits.mirror, (omega arith, (tt, (omega arith, (tt, (fits.seed, (tt, (omega arith, (omega arith, tt)))))))))),
                  ),
                ),
              ),
            ),
          ),
        ),
      ),
    )) in
    record {
      oem_id = boot-name shape rest;
      bytes_per_sector = r.1.1.1.1.0;
      sectors_per_cluster = r.1.1.1.1.1.0;
      sector_count = r.1.1.1.1.1.1.1.0;
      mft = r.1.1.1.1.1.1.1.1.0;
      mirror = r.1.1.1.1.1.1.1.1.1.0;
      record_code = r.1.1.1.1.1.1.1.1.1.1.0;
      block_code = r.1.1.1.1.1.1.1.1.1.1.1.1.0;
      serial = r.1.1.1.1.1.1.1.1.1.1.1.1.1.1.0;
    }
