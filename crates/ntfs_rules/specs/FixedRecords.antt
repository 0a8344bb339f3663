-- Rules C15 and C16, of the records with fixed numbers (the Linux-NTFS documentation, "Files": $MFT, $MFTMirr,
-- $LogFile, $Volume, the root directory, $Bitmap, $Boot and $BadClus; the rules are ours). C15 looks at clusters by
-- their numbers; of each of these records the row is a test of its own.
use Rattle.std.specs.Prelude.{◌+◌, ◌*◌, ◌==◌, ◌&&◌, ◌||◌, not, ℕ, suc, Bool, true, false, List, [], ◌∷◌, length, map, Option, Some, None, Result, Ok, Err, nat_le, nat_lt, slice_index}
use Rattle.std.specs.Int.{div_ceil}
use Rattle.ntfs_base.specs.Bytes.{clusters_for, number_at, raw_of}
use Rattle.ntfs_base.specs.Checks.{Check, check, first_wrong}
use Rattle.ntfs_boot.specs.declared.geometry.Geometry.{Geometry}
use Rattle.ntfs_rules.specs.Clusters.{holds_below}
use Rattle.ntfs_rules.specs.Directories.{has_directory_flag}
use Rattle.ntfs_rules.specs.VolumeData.{Records}
use Rattle.ntfs_directory.specs.UpCase.{data_kind}
use Rattle.ntfs_fixup.specs.Fixups.{array_count, array_offset, unfix_of}
use Rattle.ntfs_fixup.specs.declared.header.Magic.TheVariants.{File}
use Rattle.ntfs_fixup.specs.declared.unfixing.FixFault.{FixFault}
use Rattle.ntfs_record.specs.Layout.{in_use_of}
use Rattle.ntfs_record.specs.Slots.{Slot}
use Rattle.ntfs_runs.specs.Cells.{are_cells}
use Rattle.ntfs_runs.specs.Clusters.{row}
use Rattle.ntfs_volume.specs.Gather.{Lists}
use Rattle.ntfs_volume.specs.Located.{slot_at}
use Rattle.ntfs_volume.specs.MftMap.{head_clusters}
use Rattle.ntfs_volume.specs.StreamBytes.{clusters_in}
use Rattle.ntfs_volume.specs.Streams.{Gathered, Stream, gather}
use Rattle.ntfs_volume.specs.declared.fault.VolumeFault.{VolumeFault}

-- ---- tests of streams

-- a stream that was gathered passes a test; what can't be gathered, as of a record that isn't in use, passes none
abbrev pub passes : {X : Type 0} → (Gathered X → Bool) → Result (Gathered X) VolumeFault → Bool
passes test (Ok found) = test found
passes test (Err fault) = false

-- it has no flags, isn't resident and has no hole, on a volume of n clusters
unfoldable pub is_solid : ℕ → Stream ℕ → Bool
is_solid n s = (s.flags == 0) && (not s.is_resident && are_cells false n s.cells)

-- the cells begin with these clusters
unfoldable pub begin_with : List ℕ → List (Option ℕ) → Bool
begin_with [] cells = true
begin_with (k ∷ ks) [] = false
begin_with (k ∷ ks) (None ∷ cells) = false
begin_with (k ∷ ks) (Some cluster ∷ cells) = (cluster == k) && begin_with ks cells

-- the cells from a VCN on are holes, or clusters with the number of their VCN
unfoldable pub are_in_place : ℕ → List (Option ℕ) → Bool
are_in_place vcn [] = true
are_in_place vcn (None ∷ cells) = are_in_place (suc vcn) cells
are_in_place vcn (Some cluster ∷ cells) = (cluster == vcn) && are_in_place (suc vcn) cells

-- size and initialised size are so many bytes at least
abbrev pub has_both_sizes : ℕ → Stream ℕ → Bool
has_both_sizes least s = nat_le least s.size && nat_le least s.valid

-- ---- C15

-- the clusters of the first four records in the mirror: those from the boot sector's on, in a row
abbrev pub mirror_clusters : Geometry → List ℕ
mirror_clusters g = clusters_in (row (clusters_for (4 * g.record_size) g.cluster) (Some g.mirror))

-- the type of $VOLUME_INFORMATION
abbrev pub volume_information_kind : ℕ
volume_information_kind = 0x70

-- the name `$Bad` in UTF-16LE
abbrev pub bad_name : List ℕ
bad_name = 0x24 ∷ 0x00 ∷ 0x42 ∷ 0x00 ∷ 0x61 ∷ 0x00 ∷ 0x64 ∷ 0x00 ∷ []

-- the unnamed $DATA of a record
abbrev pub data_of : Geometry → Lists → Records ℕ → ℕ → Result (Gathered ℕ) VolumeFault
data_of g listings slots r = gather g.cluster listings slots r data_kind []

-- record r has no attribute list
abbrev pub has_no_list : Lists → ℕ → Bool
has_no_list listings r = not (listings r).is_there

-- record 0, $MFT: the stream has no flags, and begins with the clusters of one record, from the boot sector's on in a
-- row. It begins with all clusters of the map too, by which this record was read: so the map begins with these
-- clusters, and record 0 is the one that stands there
unfoldable pub row_0 : Geometry → List ℕ → Result (Gathered ℕ) VolumeFault → Bool
row_0 g table found =
    passes (λ (s : Gathered ℕ). (s.stream.flags == 0)
    && (begin_with (head_clusters g) s.stream.cells && begin_with table s.stream.cells)) found

-- record 1, $MFTMirr: no list; a stream without holes, of four records at least, which begins with their clusters, from
-- the boot sector's on in a row
unfoldable pub row_1 : Geometry → Lists → Result (Gathered ℕ) VolumeFault → Bool
row_1 g listings found =
    has_no_list listings 1 && passes (λ (s : Gathered ℕ). is_solid g.clusters s.stream
    && (nat_le (4 * g.record_size) s.stream.size && begin_with (mirror_clusters g) s.stream.cells)) found

-- record 2, $LogFile: a stream without holes
unfoldable pub row_2 : Geometry → Result (Gathered ℕ) VolumeFault → Bool
row_2 g found = passes (λ (s : Gathered ℕ). is_solid g.clusters s.stream) found

-- record 3, $Volume: no list; $VOLUME_INFORMATION in the record, of 12 bytes at least, of version 3.1
unfoldable pub row_3 : Lists → Result (Gathered ℕ) VolumeFault → Bool
row_3 listings found =
    has_no_list listings 3 && passes (λ (s : Gathered ℕ). (s.stream.flags == 0) && (s.stream.is_resident
    && (nat_le 12 (length s.stream.value)
    && ((number_at 1 0x08 s.stream.value == 3) && (number_at 1 0x09 s.stream.value == 1))))) found

-- record 5, the root directory: in use, with the flag of a directory
unfoldable pub row_5 : {P : Type 0} → Slot P → Bool
row_5 s = s.is_live && has_directory_flag s

-- a stream of one extent without holes, which has a bit for each of n clusters, all initialised
unfoldable pub is_bitmap : ℕ → Gathered ℕ → Bool
is_bitmap n s = is_solid n s.stream && ((s.extents == 1) && has_both_sizes (div_ceil n 8) s.stream)

-- record 6, $Bitmap: no list; a stream that is so
unfoldable pub row_6 : Geometry → Lists → Result (Gathered ℕ) VolumeFault → Bool
row_6 g listings found = has_no_list listings 6 && passes (is_bitmap g.clusters) found

-- record 7, $Boot: no list; a stream without holes, which begins with cluster 0
unfoldable pub row_7 : Geometry → Lists → Result (Gathered ℕ) VolumeFault → Bool
row_7 g listings found =
    has_no_list listings 7 && passes (λ (s : Gathered ℕ). is_solid g.clusters s.stream
    && begin_with (0 ∷ []) s.stream.cells) found

-- record 8, $BadClus: no list; `$Bad` of one extent that isn't resident, with no flags, in which each cluster stands at
-- the VCN of its number
unfoldable pub row_8 : Lists → Result (Gathered ℕ) VolumeFault → Bool
row_8 listings found =
    has_no_list listings 8 && passes (λ (s : Gathered ℕ). (s.stream.flags == 0) && (not s.stream.is_resident
    && ((s.extents == 1) && are_in_place 0 s.stream.cells))) found

-- the rows by their records
abbrev pub fixed_rows : Geometry → List ℕ → Lists → Records ℕ → List (Check ℕ)
fixed_rows g table listings slots =
    check (row_0 g table (data_of g listings slots 0)) 0
    ∷ check (row_1 g listings (data_of g listings slots 1)) 1
    ∷ check (row_2 g (data_of g listings slots 2)) 2
    ∷ check (row_3 listings (gather g.cluster listings slots 3 volume_information_kind [])) 3
    ∷ check (row_5 (slot_at slots 5)) 5
    ∷ check (row_6 g listings (data_of g listings slots 6)) 6
    ∷ check (row_7 g listings (data_of g listings slots 7)) 7
    ∷ check (row_8 listings (gather g.cluster listings slots 8 data_kind bad_name)) 8
    ∷ []

-- C15: each of these records is as its row says; `table` are the clusters of $MFT by its map
unfoldable pub c15 : Geometry → List ℕ → Lists → Records ℕ → Option ℕ
c15 g table listings slots = first_wrong (fixed_rows g table listings slots)

-- ---- C16

-- the bytes of a record whose fixups agree
abbrev pub if_whole : Result (List ℕ) FixFault → Option (List ℕ)
if_whole (Ok block) = Some block
if_whole (Err fault) = None

-- those of the r-th record of a size in these bytes
unfoldable pub unfixed_in : ℕ → List ℕ → ℕ → Option (List ℕ)
unfixed_in size bytes r = unfixed_of (raw_of size bytes r)
  where
    unfixed_of : Option (List ℕ) → Option (List ℕ)
    unfixed_of None = None
    unfixed_of (Some raw) = if_whole (unfix_of File raw)

-- a place lies in a record's fixup array
abbrev pub is_in_array : List ℕ → ℕ → Bool
is_in_array block place =
    nat_le (array_offset block) place && nat_lt place (array_offset block + 2 * array_count block)

-- two records are the same in the bytes in use of the first but for its fixup array
unfoldable pub is_copy : List ℕ → List ℕ → Bool
is_copy block copy =
    holds_below (in_use_of block) (λ p. is_in_array block p || (slice_index copy p == slice_index block p))

-- a record has such a copy, where both are whole
abbrev pub has_copy : Option (List ℕ) → Option (List ℕ) → Bool
has_copy (Some block) (Some copy) = is_copy block copy
has_copy (Some block) None = false
has_copy None copy = false

-- C16: records 0 to 3 of $MFT, whose bytes these are, have copies in the mirror
unfoldable pub c16 : ℕ → List ℕ → List ℕ → Option ℕ
c16 size table mirror =
    first_wrong (map (λ r. check (has_copy (unfixed_in size table r) (unfixed_in size mirror r)) r)
    (0 ∷ 1 ∷ 2 ∷ 3 ∷ []))
