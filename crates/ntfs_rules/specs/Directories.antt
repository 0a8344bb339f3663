-- Rules C13 and C14, of directories and the names in them (the Linux-NTFS documentation, "Directory", "$UpCase" and
-- "$FILE_NAME"; the rules are ours). They look at contents alone, wherever they lie.
use Rattle.std.specs.Prelude.{◌+◌, ◌*◌, ◌/◌, ◌%◌, ◌==◌, ◌&&◌, ◌||◌, not, ℕ, Bool, true, false, List, [], ◌∷◌, length, map, Option, Some, Result, Ok, Err, nat_le, is_some}
use Rattle.std.specs.List.{list_all, list_any}
use Rattle.std.specs.Ordering.{is_gt}
use Rattle.std.specs.Str.{bytes_eq}
use Rattle.ntfs_base.specs.Bytes.{number_at, piece_at}
use Rattle.ntfs_base.specs.Frames.{must, ◌>>=◌}
use Rattle.ntfs_boot.specs.declared.geometry.Geometry.{Geometry}
use Rattle.ntfs_rules.specs.Files.{names_base}
use Rattle.ntfs_rules.specs.Records.{first_bad}
use Rattle.ntfs_rules.specs.VolumeData.{Records, bytes_found, without_clusters}
use Rattle.ntfs_directory.specs.Directory.{DirectoryWalk, allocation_found, allocation_kind, index_name, index_root_value, only_refused, root_kind, walk_in}
use Rattle.ntfs_directory.specs.Fault.{unwalkable}
use Rattle.ntfs_directory.specs.UpCase.{data_kind, is_up_case, up_case_found, up_case_record}
use Rattle.ntfs_index.specs.Node.{IndexEntry}
use Rattle.ntfs_index.specs.Walk.{listing, walk_allocation}
use Rattle.ntfs_record.specs.Slots.{Slot}
use Rattle.ntfs_upcase.specs.Collation.{collate}
use Rattle.ntfs_upcase.specs.Names.{units}
use Rattle.ntfs_volume.specs.Gather.{Extent, Lists, extents}
use Rattle.ntfs_volume.specs.References.{matches, target}
use Rattle.ntfs_volume.specs.Streams.{Gathered, gather}
use Rattle.ntfs_volume.specs.declared.fault.VolumeFault.{VolumeFault}

-- ---- a $FILE_NAME, the key of an index entry too ("$FILE_NAME")

-- parent_directory, 8 bytes at 0x00: the reference of the directory in which the name stands
abbrev pub parent_of : List ℕ → ℕ
parent_of value = number_at 8 0x00 value

-- file_name_type, 1 byte at 0x41: the namespace
abbrev pub namespace_of : List ℕ → ℕ
namespace_of value = number_at 1 0x41 value

-- file_name_length, 1 byte at 0x40, in units of 2 bytes
abbrev pub name_length_of : List ℕ → ℕ
name_length_of value = number_at 1 0x40 value

-- file_name, the units at 0x42
unfoldable pub name_of : List ℕ → List ℕ
name_of value = piece_at 0x42 (2 * name_length_of value) value

-- the fields and the name are there
unfoldable pub has_whole_name : List ℕ → Bool
has_whole_name value = nat_le (0x42 + 2 * name_length_of value) (length value)

-- ---- the walk of a directory

-- flags, 2: the record is a directory ("File Record")
unfoldable pub has_directory_flag : {P : Type 0} → Slot P → Bool
has_directory_flag s = s.head.flags / 2 % 2 == 1

-- a base record with that flag
abbrev pub is_directory : {P : Type 0} → Slot P → Bool
is_directory s = (s.head.base == 0) && has_directory_flag s

-- the walk of directory d, by its index root and its index blocks as they were gathered
abbrev pub walk_by : Geometry → ℕ → Result (List ℕ) VolumeFault → List ℕ → DirectoryWalk
walk_by g d (Ok root) blocks = walk_in d (listing (walk_allocation g.cluster g.block root blocks))
walk_by g d (Err fault) blocks = only_refused fault

-- the value of the index root of directory d, where it and the index blocks can be gathered
unfoldable pub root_of : ℕ → Result (Gathered (List ℕ)) VolumeFault → Result (Gathered (List ℕ)) VolumeFault
    → Result (List ℕ) VolumeFault
root_of d root blocks = do
  value ← index_root_value d (without_clusters root)
  _ ← allocation_found (without_clusters blocks)
  Ok value

-- the walk of directory d: a function of its index root and blocks, of the cluster and the block size
unfoldable pub gathered_walk : Geometry → ℕ → Result (Gathered (List ℕ)) VolumeFault
    → Result (Gathered (List ℕ)) VolumeFault → DirectoryWalk
gathered_walk g d root blocks = walk_by g d (root_of d root blocks) (bytes_found g.cluster blocks)

-- the walk of directory d among these records
unfoldable pub walk_of : Geometry → Lists → Records (List ℕ) → ℕ → DirectoryWalk
walk_of g listings slots d =
    gathered_walk g d (gather g.cluster listings slots d root_kind index_name)
    (gather g.cluster listings slots d allocation_kind index_name)

-- ---- C13

-- the table of upper-case units, by $UpCase as it was gathered; its clusters are below 1 where none is a hole
unfoldable pub up_case_units : ℕ → Result (Gathered (List ℕ)) VolumeFault → Result (List ℕ) VolumeFault
up_case_units c found = do
  s ← up_case_found (without_clusters found)
  _ ← must (is_up_case 1 s) (unwalkable up_case_record)
  Ok (units (bytes_found c found))

-- the names of entries
abbrev pub names_in : List IndexEntry → List (List ℕ)
names_in entries = map (λ (entry : IndexEntry). name_of entry.key) entries

-- no name comes before the one that it follows
unfoldable pub are_ascending : List ℕ → List (List ℕ) → Bool
are_ascending table [] = true
are_ascending table (name ∷ []) = true
are_ascending table (name ∷ next ∷ names) =
    not (is_gt (collate table name next)) && are_ascending table (next ∷ names)

-- no two names are the same
unfoldable pub are_distinct_names : List (List ℕ) → Bool
are_distinct_names [] = true
are_distinct_names (name ∷ names) = not (list_any (bytes_eq name) names) && are_distinct_names names

-- a walk is whole, its names ascend by the table, and no two are the same
unfoldable pub is_ordered : List ℕ → DirectoryWalk → Bool
is_ordered table walk =
    not (is_some walk.fault)
    && (are_ascending table (names_in walk.entries) && are_distinct_names (names_in walk.entries))

-- the first directory whose walk isn't so; record 10 where there is no table
abbrev pub first_disordered : Result (List ℕ) VolumeFault → (ℕ → DirectoryWalk) → Records (List ℕ) → Option ℕ
first_disordered (Ok table) walks slots =
    first_bad (λ r s. not (is_directory s) || is_ordered table (walks r)) slots
first_disordered (Err fault) walks slots = Some up_case_record

-- C13: record 10 has $UpCase, with no hole, no flags, and initialised in its whole size; and each directory has an
-- index of at most 16 levels without fault, in which names ascend by that table and no two have the same units
unfoldable pub c13 : Geometry → Lists → Records (List ℕ) → Option ℕ
c13 g listings slots =
    first_disordered (up_case_units g.cluster (gather g.cluster listings slots up_case_record data_kind []))
    (walk_of g listings slots) slots

-- ---- C14

-- the type of $FILE_NAME
abbrev pub file_name_kind : ℕ
file_name_kind = 0x30

-- a $FILE_NAME is the one of this key in directory d, which has this sequence number
unfoldable pub is_name_of : ℕ → ℕ → List ℕ → List ℕ → Bool
is_name_of d sequence key value =
    has_whole_name value && (matches (parent_of value) d sequence
    && ((namespace_of value == namespace_of key) && bytes_eq (name_of value) (name_of key)))

-- one of these attributes, resident, is that name
abbrev pub have_name : {P : Type 0} → ℕ → ℕ → List ℕ → Result (List (Extent P)) VolumeFault → Bool
have_name d sequence key (Ok found) =
    list_any (λ (e : Extent _). e.attribute.face.is_resident && is_name_of d sequence key e.attribute.face.value) found
have_name d sequence key (Err fault) = false

-- an entry of directory d matches a base record in use that has its name
unfoldable pub leads_to_name : {P : Type 0} → Lists → List (Slot P) → ℕ → ℕ → IndexEntry → Bool
leads_to_name listings slots d sequence entry =
    names_base slots entry.reference
    && have_name d sequence entry.key (extents listings slots (target entry.reference) file_name_kind [])

-- C14: so does each entry of each directory; the directory is named
unfoldable pub c14 : Geometry → Lists → Records (List ℕ) → Option ℕ
c14 g listings slots =
    first_bad (λ r s. not (is_directory s)
    || list_all (leads_to_name listings slots r s.head.sequence) (walk_of g listings slots r).entries) slots
