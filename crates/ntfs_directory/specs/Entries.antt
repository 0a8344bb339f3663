-- Entries of a directory: the name in a key, and the record that an entry names (the Linux-NTFS documentation,
-- "$FILE_NAME", "File Reference" and "File Record"; the refusals are ours).
use Rattle.std.specs.Prelude.{◌*◌, ◌==◌, not, ℕ, Bool, List, Result, Ok, bit_and}
use Rattle.ntfs_base.specs.Bytes.{cluster_at, number_at, piece_at}
use Rattle.ntfs_base.specs.Frames.{must, refused_as, ◌>>=◌}
use Rattle.ntfs_boot.specs.declared.geometry.Geometry.{Geometry}
use Rattle.ntfs_directory.specs.Fault.{entry_refusal, bad_entry}
use Rattle.ntfs_directory.specs.declared.entries.BaseRecord.{BaseRecord}
use Rattle.ntfs_directory.specs.declared.entries.EntryRecord.{EntryRecord}
use Rattle.ntfs_record.specs.FileRecord.{FileRecord}
use Rattle.ntfs_volume.specs.Gathering.{file_at}
use Rattle.ntfs_volume.specs.MftMap.{Map}
use Rattle.ntfs_volume.specs.References.{matches, target}
use Rattle.ntfs_volume.specs.declared.fault.VolumeFault.{VolumeFault}
use Rattle.ntfs_volume.specs.declared.fault.VolumeFault.TheVariants as volume

-- ---- the key of an entry, a $FILE_NAME

-- file_name_length, 1 byte at 0x40, in units of 2 bytes
abbrev pub key_name_length : List ℕ → ℕ
key_name_length key = number_at 1 0x40 key

-- file_name_type, 1 byte at 0x41: the namespace, 0 POSIX, 1 Win32, 2 DOS, 3 both of these
unfoldable pub key_namespace : List ℕ → ℕ
key_namespace key = number_at 1 0x41 key

-- file_name, from 0x42 on, in UTF-16LE
unfoldable pub key_name : List ℕ → List ℕ
key_name key = piece_at 0x42 (2 * key_name_length key) key

-- ---- the record of an entry

-- the flags of a record tell a directory ("File Record": flag 2)
unfoldable pub is_directory_flag : ℕ → Bool
is_directory_flag flags = not (bit_and flags 2 == 0)

-- what a base record says of its directory flag, and its sequence number
abbrev pub base_said : FileRecord → BaseRecord
base_said file = record { sequence = file.head.sequence; is_directory = is_directory_flag file.head.flags }

-- the base record of a number; it is absent where it isn't in use, or an extension
unfoldable pub base_record : Geometry → Map → List ℕ → ℕ → Result BaseRecord VolumeFault
base_record g map image number = do
  file ← file_at g map (cluster_at image g.cluster) number
  _ ← must (file.head.base == 0) volume.Absent
  Ok (base_said file)

-- the record that an entry of directory d names by its reference: a base record in use, which the reference matches;
-- else that entry is wrong, but for a record in use that is itself wrong
unfoldable pub entry_record : Geometry → Map → List ℕ → ℕ → ℕ → Result EntryRecord VolumeFault
entry_record g map image d reference = do
  base ← refused_as (entry_refusal d) (base_record g map image (target reference))
  _ ← must (matches reference (target reference) base.sequence) (bad_entry d)
  Ok (record { number = target reference; is_directory = base.is_directory })
