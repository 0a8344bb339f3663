-- The rows of rule C15, as the code goes through them. The words are ours.
use Rattle.std.specs.Prelude.{◌≡◌, ◌==◌, ◌&&◌, ℕ, Bool, true, false, List, [], length, nat_le, Option, Some, None, Result, Ok, Err}
use Rattle.ntfs_base.specs.Bytes.{number_at}
use Rattle.ntfs_base.specs.Checks.{Check, check}
use Rattle.ntfs_boot.specs.declared.geometry.Geometry.{Geometry}
use Rattle.ntfs_check_fixed.specs.declared.rows.Row.{Row}
use Rattle.ntfs_check_fixed.specs.declared.rows.Row.TheVariants as row
use Rattle.ntfs_directory.specs.UpCase.{data_kind}
use Rattle.ntfs_rules.specs.FixedRecords.{bad_name, row_0, row_1, row_2, row_3, row_5, row_6, row_7, row_8, volume_information_kind}
use Rattle.ntfs_volume.specs.Gather.{Lists}
use Rattle.ntfs_volume.specs.Located.{slot_at, slots_of, with_cells}
use Rattle.ntfs_volume.specs.Opened.{Opened}
use Rattle.ntfs_volume.specs.Streams.{Gathered, Stream, gather_of, lists_of}
use Rattle.ntfs_volume.specs.declared.fault.VolumeFault.{VolumeFault}

-- the record that a row looks at
abbrev pub row_record : Row → ℕ
row_record row.Mft = 0
row_record row.Mirror = 1
row_record row.Log = 2
row_record row.Volume = 3
row_record row.Root = 5
row_record row.Bitmap = 6
row_record row.Boot = 7
row_record row.Bad = 8

-- the type of the stream
abbrev pub row_kind : Row → ℕ
row_kind row.Volume = volume_information_kind
row_kind other = data_kind

-- its name
abbrev pub row_name : Row → List ℕ
row_name row.Bad = bad_name
row_name other = []

-- what a row says of the stream that was gathered; that of the root directory looks at none
abbrev pub stream_row : Geometry → List ℕ → Lists → Row → Result (Gathered ℕ) VolumeFault → Bool
stream_row g table listings row.Mft found = row_0 g table found
stream_row g table listings row.Mirror found = row_1 g listings found
stream_row g table listings row.Log found = row_2 g found
stream_row g table listings row.Volume found = row_3 listings found
stream_row g table listings row.Root found = false
stream_row g table listings row.Bitmap found = row_6 g listings found
stream_row g table listings row.Boot found = row_7 g listings found
stream_row g table listings row.Bad found = row_8 listings found

-- the stream that a row looks at is as it says, in an opened volume, where f gives the bytes of each cluster
abbrev pub stream_holds_in : Opened → (ℕ → List ℕ) → Row → Bool
stream_holds_in o f which =
    stream_row o.geometry o.map.clusters (lists_of o.geometry f (slots_of o.geometry o.map f)) which
    (gather_of o.geometry o.map f (row_record which) (row_kind which) (row_name which))

-- a record is as its row says
abbrev pub holds_in : Opened → (ℕ → List ℕ) → Row → Bool
holds_in o f row.Root = row_5 (slot_at (with_cells o.geometry.clusters (slots_of o.geometry o.map f)) 5)
holds_in o f other = stream_holds_in o f other

-- the row as a line of the table
abbrev pub row_check : Opened → (ℕ → List ℕ) → Row → Check ℕ
row_check o f which = check (holds_in o f which) (row_record which)

-- a value of a stream has no clusters
abbrev pub HasNoClusters : Stream ℕ → Type 0
HasNoClusters s = s.is_resident ≡ true → s.cells ≡ []

-- a stream that was gathered, or none
abbrev pub found_by : {X : Type 0} → Result (Gathered X) VolumeFault → Option (Gathered X)
found_by (Ok found) = Some found
found_by (Err fault) = None

-- the value of $VOLUME_INFORMATION has 12 bytes at least, and tells the version 3.1
abbrev pub has_version : List ℕ → Bool
has_version value = nat_le 12 (length value) && ((number_at 1 0x08 value == 3) && (number_at 1 0x09 value == 1))
