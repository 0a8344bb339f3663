-- The record that a path names. A path is a text that is split at `/`, of which empty parts are skipped; the empty path
-- is the root, record 5. A part is looked up in the directory that the parts before it name: its first entry with the
-- same units, else the first that has the same name under $UpCase (the Linux-NTFS documentation, "Directory" and
-- "$UpCase"; how a path is read and the refusals are ours).
use Rattle.std.specs.Prelude.{◌+◌, ◌==◌, ℕ, Bool, true, false, List, [], ◌∷◌, filter, find, length, Option, Some, None, Result, Ok, Err, if◌then◌else◌}
use Rattle.std.specs.Option.{ok_or, option_map}
use Rattle.std.specs.Str.{bytes_eq}
use Rattle.ntfs_base.specs.Frames.{Origin, content, reading, memory, must, refused_as, ◌>>=◌}
use Rattle.ntfs_base.specs.declared.refusal.Missing.TheVariants as missing
use Rattle.ntfs_base.specs.declared.refusal.Rule.TheVariants as rule
use Rattle.ntfs_boot.specs.declared.geometry.Geometry.{Geometry}
use Rattle.ntfs_directory.specs.Directory.{DirectoryWalk, begun_walk}
use Rattle.ntfs_directory.specs.Entries.{base_record, entry_record, key_name}
use Rattle.ntfs_directory.specs.UpCase.{up_case_of}
use Rattle.ntfs_directory.specs.declared.entries.EntryRecord.{EntryRecord}
use Rattle.ntfs_directory.specs.declared.path_fault.PathFault.{PathFault}
use Rattle.ntfs_directory.specs.declared.path_fault.PathFault.TheVariants as path
use Rattle.ntfs_index.specs.Node.{IndexEntry}
use Rattle.ntfs_upcase.specs.Collation.{same_name}
use Rattle.ntfs_upcase.specs.Names.{name_bytes}
use Rattle.ntfs_volume.specs.MftMap.{Map}
use Rattle.ntfs_volume.specs.declared.fault.VolumeFault.{VolumeFault}
use Rattle.ntfs_volume.specs.declared.fault.VolumeFault.TheVariants as volume

-- ---- the parts of a path

-- a byte at the front of the first of some pieces
abbrev pub at_front : ℕ → List (List ℕ) → List (List ℕ)
at_front byte [] = (byte ∷ []) ∷ []
at_front byte (piece ∷ pieces) = (byte ∷ piece) ∷ pieces

-- what stands between the slashes of a path
unfoldable pub pieces_of : List ℕ → List (List ℕ)
pieces_of [] = [] ∷ []
pieces_of (byte ∷ bytes) = if byte == 0x2F then [] ∷ pieces_of bytes else at_front byte (pieces_of bytes)

-- a piece isn't empty
abbrev pub is_part : List ℕ → Bool
is_part [] = false
is_part (byte ∷ bytes) = true

-- the parts of a path, by its bytes
unfoldable pub path_parts : List ℕ → List (List ℕ)
path_parts path = filter is_part (pieces_of path)

-- ---- refusals

-- part k isn't there, or is asked of what is no directory
abbrev pub no_part : ℕ → PathFault
no_part k = path.NotFound (missing.Part k)

-- a refusal of the volume where part k is looked up. What no directory gives stands as in the refusals of an image that
-- isn't opened: as damage of the boot sector, and of the image's length
abbrev pub path_fault : ℕ → VolumeFault → PathFault
path_fault k volume.NotNtfs = path.Damaged rule.C1 0
path_fault k (volume.BadGeometry field value) = path.Damaged rule.C1 0
path_fault k (volume.ImageShort len need) = path.Damaged rule.C2 0
path_fault k (volume.Damaged rule number) = path.Damaged rule number
path_fault k volume.Absent = no_part k
path_fault k volume.NoAttribute = no_part k
path_fault k volume.ReadFault = path.ReadFault
path_fault k volume.WriteFault = path.ReadFault
path_fault k volume.NoMemory = path.NoMemory

-- a refusal of a path: nothing but a part is missing
abbrev pub IsPathRefusal : PathFault → Type 0
IsPathRefusal (path.NotFound (missing.Part k)) = Unit {0}
IsPathRefusal (path.NotFound other) = ⊥
IsPathRefusal other = Unit {0}

-- where a refusal comes from
abbrev pub path_origin : PathFault → Origin
path_origin (path.NotFound what) = content
path_origin (path.Damaged rule number) = content
path_origin path.ReadFault = reading
path_origin path.NoMemory = memory

-- ---- one part

-- the same units: the name in a key has two bytes to each, as a part's name has
abbrev pub has_units : List ℕ → IndexEntry → Bool
has_units name entry = bytes_eq (key_name entry.key) name

-- the same name under a table of upper-case units
abbrev pub has_like_name : List ℕ → List ℕ → IndexEntry → Bool
has_like_name upper name entry = same_name upper (key_name entry.key) name

-- the reference of the first entry that is alike
abbrev pub or_like : Option ℕ → Bool → ℕ → Option ℕ
or_like (Some first) is_like reference = Some first
or_like None is_like reference = if is_like then Some reference else None

-- the entry with the same units; without one the fault of the walk; without that the entry that is alike
abbrev pub chosen : {A : Type 0} → Option A → Option VolumeFault → Option A → Result (Option A) VolumeFault
chosen (Some same) fault like = Ok (Some same)
chosen None (Some fault) like = Err fault
chosen None None like = Ok like

abbrev pub reference_of : IndexEntry → ℕ
reference_of entry = entry.reference

-- the reference of a name in a walk, where it has one
unfoldable pub named_in : List ℕ → List ℕ → DirectoryWalk → Result (Option ℕ) VolumeFault
named_in upper name walk =
    chosen (option_map reference_of (find (has_units name) walk.entries)) walk.fault
    (option_map reference_of (find (has_like_name upper name) walk.entries))

-- the record of a reference, where there is one
abbrev pub record_named : Geometry → Map → List ℕ → ℕ → Option ℕ → Result (Option EntryRecord) VolumeFault
record_named g map image d None = Ok None
record_named g map image d (Some reference) = do
  found ← entry_record g map image d reference
  Ok (Some found)

-- the reference of a name in directory d, where it has one
unfoldable pub reference_in : Geometry → Map → List ℕ → List ℕ → ℕ → List ℕ → Result (Option ℕ) VolumeFault
reference_in g map image upper d name = do
  walk ← begun_walk g map image d
  named_in upper name walk

-- the record of a name in directory d, where it has one
unfoldable pub entry_found : Geometry → Map → List ℕ → List ℕ → ℕ → List ℕ → Result (Option EntryRecord) VolumeFault
entry_found g map image upper d name = do
  reference ← reference_in g map image upper d name
  record_named g map image d reference

-- the record of part k, which is asked of this record
unfoldable pub part_in : Geometry → Map → List ℕ → List ℕ → ℕ → EntryRecord → List ℕ → Result EntryRecord PathFault
part_in g map image upper k at part = do
  _ ← must at.is_directory (no_part k)
  found ← refused_as (path_fault k) (entry_found g map image upper at.number (name_bytes part))
  ok_or found (no_part k)

-- ---- all parts

-- the record of the parts from k on, of which the first is asked of this record
unfoldable pub parts_from : Geometry → Map → List ℕ → List ℕ → ℕ → EntryRecord → List (List ℕ)
    → Result EntryRecord PathFault
parts_from g map image upper k at [] = Ok at
parts_from g map image upper k at (part ∷ parts) = do
  next ← part_in g map image upper k at part
  parts_from g map image upper (k + 1) next parts

-- the number of the root
abbrev pub root_number : ℕ
root_number = 5

-- its record, which must be a base record in use
unfoldable pub root_record : Geometry → Map → List ℕ → Result EntryRecord PathFault
root_record g map image = do
  base ← refused_as (path_fault 0) (base_record g map image root_number)
  Ok (record { number = root_number; is_directory = base.is_directory })

-- the record of parts that there are: $UpCase is read first
unfoldable pub record_below_root : Geometry → Map → List ℕ → List (List ℕ) → Result EntryRecord PathFault
record_below_root g map image parts = do
  upper ← refused_as (path_fault 0) (up_case_of g map image)
  root ← root_record g map image
  parts_from g map image upper 0 root parts

abbrev pub record_of_parts : Geometry → Map → List ℕ → List (List ℕ) → Result EntryRecord PathFault
record_of_parts g map image [] = root_record g map image
record_of_parts g map image (part ∷ parts) = record_below_root g map image (part ∷ parts)

-- the number of the record that a path names; that of the root needs no reading
abbrev pub number_of_parts : Geometry → Map → List ℕ → List (List ℕ) → Result ℕ PathFault
number_of_parts g map image [] = Ok root_number
number_of_parts g map image (part ∷ parts) = do
  found ← record_below_root g map image (part ∷ parts)
  Ok found.number

unfoldable pub path_of : Geometry → Map → List ℕ → List ℕ → Result ℕ PathFault
path_of g map image path = number_of_parts g map image (path_parts path)

-- the same of a path that must end at a directory: where it doesn't, the part that would follow is missing
unfoldable pub directory_at : Geometry → Map → List ℕ → List ℕ → Result ℕ PathFault
directory_at g map image path = do
  found ← record_of_parts g map image (path_parts path)
  _ ← must found.is_directory (no_part (length (path_parts path)))
  Ok found.number
