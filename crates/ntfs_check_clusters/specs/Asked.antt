-- What is asked of each record in use, as the code asks it. The words are ours.
use Rattle.std.specs.Prelude.{ℕ, Bool, List}
use Rattle.std.specs.List.{list_all}
use Rattle.ntfs_rules.specs.Records.{has_bit, has_name_between}
use Rattle.ntfs_check_clusters.specs.declared.asked.Asked.{Asked}
use Rattle.ntfs_check_clusters.specs.declared.asked.Asked.TheVariants as asked
use Rattle.ntfs_check_records.specs.Asked.{RecordTest}
use Rattle.ntfs_record.specs.FileRecord.{FileRecord}
use Rattle.ntfs_volume.specs.Located.{located_attributes, located_of}

-- the same words for code
abbrev pub has_bit_in : List ℕ → ℕ → Bool
has_bit_in bits place = has_bit bits place

-- the attribute of these bytes, wherever it stands, has its name between its fields and what follows
abbrev pub is_name_between : List ℕ → Bool
is_name_between raw = has_name_between (located_of (record { place = 0; raw = raw }))

-- so has each attribute of a record
abbrev pub has_names_between : FileRecord → Bool
has_names_between file = list_all has_name_between (located_attributes file)

-- the answer of record r
abbrev pub cluster_answer : Asked → RecordTest
cluster_answer (asked.Mark bits) r s = has_bit bits.now r
cluster_answer asked.Names r s = list_all has_name_between s.attributes
