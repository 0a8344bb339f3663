-- The comparison of rule C16, as the code makes it. The words are ours.
use Rattle.std.specs.Prelude.{◌==◌, ◌||◌, ◌&&◌, ℕ, Bool, List, nat_lt, slice_index}
use Rattle.ntfs_base.specs.Checks.{Check, check}
use Rattle.ntfs_rules.specs.FixedRecords.{has_copy, is_in_array, unfixed_in}

-- a byte is the same in both records, or lies in the fixup array of the first
abbrev pub is_same_at : List ℕ → List ℕ → ℕ → Bool
is_same_at block copy place = is_in_array block place || (slice_index copy place == slice_index block place)

-- so many records of a size stand in these bytes, record r is one of them, and it has a copy in the mirror
abbrev pub is_copied : ℕ → ℕ → List ℕ → List ℕ → ℕ → Bool
is_copied size count records mirror r =
    nat_lt r count && has_copy (unfixed_in size records r) (unfixed_in size mirror r)

-- the same as a line of a table
abbrev pub copy_check : ℕ → ℕ → List ℕ → List ℕ → ℕ → Check ℕ
copy_check size count records mirror r = check (is_copied size count records mirror r) r
