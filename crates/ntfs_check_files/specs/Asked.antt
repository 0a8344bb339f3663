-- What is asked of each record in use, as the code asks it. The words are ours.
use Rattle.std.specs.Prelude.{◌≡◌, ◌==◌, ◌||◌, ℕ, List, None}
use Rattle.ntfs_check_records.specs.Asked.{RecordTest}
use Rattle.ntfs_check_records.specs.Reading.{records_of}
use Rattle.ntfs_check_files.specs.Extending.{AreExtensions}
use Rattle.ntfs_check_files.specs.declared.asked.Asked.{Asked}
use Rattle.ntfs_check_files.specs.declared.asked.Asked.TheVariants as asked
use Rattle.ntfs_check_files.specs.declared.extensions.Extensions.{Extensions}
use Rattle.ntfs_rules.specs.Files.{c10, is_listed, names_base}
use Rattle.ntfs_rules.specs.Records.{c4, of_base}
use Rattle.ntfs_volume.specs.Opened.{Opened}
use Rattle.ntfs_volume.specs.Streams.{lists_of}

-- what rule C11 presumes, beside that these are the records that extend base records
pub record PresumesLists (o : Opened) (f : ℕ → List ℕ) (extensions : Extensions) : Type 0 where
  pub whole : c4 (records_of o f) ≡ None
  pub bases : c10 (records_of o f) ≡ None
  pub all : AreExtensions o f extensions

-- what an answer presumes
unfoldable pub Presumes : Asked → Opened → (ℕ → List ℕ) → Type 0
Presumes asked.Base o f = c4 (records_of o f) ≡ None
Presumes (asked.List extensions) o f = PresumesLists o f extensions.now

-- the answer of record r
unfoldable pub file_answer : Asked → Opened → (ℕ → List ℕ) → RecordTest
file_answer asked.Base o f r s = (s.head.base == 0) || names_base (records_of o f) s.head.base
file_answer (asked.List extensions) o f r s =
    of_base s (is_listed (lists_of o.geometry f (records_of o f) r) (records_of o f) r s.head.sequence)
