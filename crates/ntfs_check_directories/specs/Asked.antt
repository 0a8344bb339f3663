-- What is asked of each directory. The words are ours.
use Rattle.std.specs.Prelude.{◌&&◌, ◌||◌, not, ℕ, Bool, List, Option, Some, None, if◌then◌else◌}
use Rattle.ntfs_base.specs.Bytes.{cluster_at}
use Rattle.ntfs_check_directories.specs.Names.{all_lead}
use Rattle.ntfs_check_directories.specs.declared.asked.Asked.{Asked}
use Rattle.ntfs_check_directories.specs.declared.asked.Asked.TheVariants as asked
use Rattle.ntfs_check_records.specs.Asked.{RecordTest, first_refused}
use Rattle.ntfs_directory.specs.Directory.{directory_walk}
use Rattle.ntfs_record.specs.Slots.{Slot}
use Rattle.ntfs_rules.specs.Directories.{is_directory, is_ordered}
use Rattle.ntfs_volume.specs.Opened.{Opened}

-- the sequence number of a directory in use
abbrev pub directory_said : {P : Type 0} → Slot P → Option ℕ
directory_said s = if s.is_live && is_directory s then Some s.head.sequence else None

-- the answer of the walk of directory d, which has this sequence number
abbrev pub walk_answer : Asked → Opened → List ℕ → ℕ → ℕ → Bool
walk_answer (asked.Order upper) o content d sequence = is_ordered upper.now (directory_walk o.geometry o.map content d)
walk_answer asked.Names o content d sequence = all_lead o content d sequence (directory_walk o.geometry o.map content d)

-- the answer of each record, of which only a directory is asked
abbrev pub directory_answer : Asked → Opened → List ℕ → RecordTest
directory_answer question o content r s = not (is_directory s) || walk_answer question o content r s.head.sequence

-- the first directory that isn't in order under a table
abbrev pub first_unordered : Opened → List ℕ → List ℕ → Option ℕ
first_unordered o content upper =
    first_refused (λ r s. not (is_directory s) || is_ordered upper (directory_walk o.geometry o.map content r)) o
    (cluster_at content o.geometry.cluster)
