-- Rules C4, C6 and C7, which look at each record by itself, and rule C5, which looks for it in $MFT's bitmap (the
-- Linux-NTFS documentation, "File Record", "Attribute Header", "Data Runs" and "$MFT"; the rules and their order are
-- ours). A rule gives the number of the first record that breaks it, and presumes the rules before it. C1 to C3, of the
-- geometry, the image's length and $MFT's map, are those by which a volume opens.
use Rattle.std.specs.Prelude.{◌+◌, ◌*◌, ◌==◌, ◌&&◌, ◌||◌, not, ℕ, Bool, List, [], length, Option, Some, Result, Ok, Err, nat_le, nat_lt, if◌then◌else◌}
use Rattle.std.specs.List.{list_all}
use Rattle.ntfs_bitmap.specs.Bits.{bit_of}
use Rattle.ntfs_rules.specs.VolumeData.{Records, bytes_found}
use Rattle.ntfs_record.specs.FileRecord.{Attribute, Laid}
use Rattle.ntfs_record.specs.Slots.{Slot, first_not}
use Rattle.ntfs_survey.specs.Owned.{have_cells, is_whole}
use Rattle.ntfs_volume.specs.Gather.{Lists}
use Rattle.ntfs_volume.specs.Located.{Located}
use Rattle.ntfs_volume.specs.Streams.{Gathered, gather}
use Rattle.ntfs_volume.specs.declared.fault.VolumeFault.{VolumeFault}

-- the number of the first record in use that a test refuses
abbrev pub first_bad : {P : Type 0} → (ℕ → Slot P → Bool) → List (Slot P) → Option ℕ
first_bad test slots = first_not (λ r s. not s.is_live || test r s) 0 slots

-- a test of base records, which other records pass
abbrev pub of_base : {P : Type 0} → Slot P → Bool → Bool
of_base s holds = not (s.head.base == 0) || holds

-- C4: every record in use can be read, as its fixups and its attributes say, and tells no other number than its own;
-- and no record is marked as torn
unfoldable pub c4 : {P : Type 0} → List (Slot P) → Option ℕ
c4 slots = first_not (λ r s. is_whole s) 0 slots

-- ---- C5

-- the type of $BITMAP
abbrev pub bitmap_kind : ℕ
bitmap_kind = 0xB0

-- bit b stands in the bytes and is 1
unfoldable pub has_bit : List ℕ → ℕ → Bool
has_bit bytes b = nat_lt b (8 * length bytes) && bit_of bytes b

-- the first record in use without its bit in $MFT's bitmap; record 0 where there is no bitmap
abbrev pub first_unmarked : {P : Type 0} → ℕ → Result (Gathered (List ℕ)) VolumeFault → List (Slot P) → Option ℕ
first_unmarked c (Ok found) slots = first_bad (λ r s. has_bit (bytes_found c (Ok found)) r) slots
first_unmarked c (Err fault) slots = Some 0

-- C5: record 0 has an unnamed $BITMAP, in which the bit of each record in use is 1
unfoldable pub c5 : ℕ → Lists → Records (List ℕ) → Option ℕ
c5 c listings slots = first_unmarked c (gather c listings slots 0 bitmap_kind []) slots

-- ---- C6

-- where an attribute's name may begin: behind the fields
abbrev pub name_begin : Bool → ℕ
name_begin is_resident = if is_resident then 24 else 64

-- a name of one unit or more stands behind the fields of its attribute and before the value or the mapping pairs
unfoldable pub has_name_between : {P : Type 0} → Attribute (Located (Laid P)) → Bool
has_name_between a =
    (length a.face.name == 0)
    || (nat_le (name_begin a.face.is_resident) a.payload.payload.spot.name_offset
    && nat_le (a.payload.payload.spot.name_offset + length a.face.name) a.payload.payload.spot.body_offset)

-- C6: so do the names of all attributes
unfoldable pub c6 : {P : Type 0} → List (Slot (Located (Laid P))) → Option ℕ
c6 slots = first_bad (λ r s. list_all has_name_between s.attributes) slots

-- ---- C7

-- C7: the mapping pairs of all attributes are right, cover just the VCNs from the lowest to the highest, and name no
-- cluster but those of the volume
unfoldable pub c7 : {X : Type 0} → Records X → Option ℕ
c7 slots = first_not (λ r s. have_cells s) 0 slots
