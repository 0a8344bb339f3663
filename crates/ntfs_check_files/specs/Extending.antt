-- Which records extend which base record. The words are ours.
use Rattle.std.specs.Prelude.{◌≡◌, ◌+◌, ◌==◌, ◌&&◌, not, ℕ, zero, suc, Bool, List, [], ◌∷◌, ◌++◌, Option, Some, None, Vec, if◌then◌else◌}
use Rattle.std.specs.BTreeMap.{BTreeMap, get}
use Rattle.std.specs.Ordering.{nat_cmp}
use Rattle.ntfs_check_records.specs.Reading.{is_readable}
use Rattle.ntfs_check_files.specs.declared.extensions.Extensions.{Extensions}
use Rattle.ntfs_record.specs.Slots.{Slot}
use Rattle.ntfs_survey.specs.Surveying.{record_at}
use Rattle.ntfs_volume.specs.Opened.{Opened}
use Rattle.ntfs_volume.specs.References.{target}
use Rattle.ntfs_volume.specs.Scan.{initialised_count}

-- the numbers that a map has at a key
abbrev pub numbers_in : {A : Type 0} → Option (Vec ℕ A) → List ℕ
numbers_in None = []
numbers_in (Some numbers) = numbers.items

abbrev pub numbers_at : {A : Type 0} → BTreeMap ℕ (Vec ℕ A) → ℕ → List ℕ
numbers_at map key = numbers_in (get nat_cmp map key)

-- those of the records that extend base record q
abbrev pub extending : Extensions → ℕ → List ℕ
extending extensions q = numbers_at extensions.numbers q

-- a record that can be read has a base reference that names record q
abbrev pub extends : {P : Type 0} → ℕ → Slot P → Bool
extends q s = is_readable s && (not (s.head.base == 0) && (target s.head.base == q))

-- a number, where its record does
abbrev pub number_if : {P : Type 0} → ℕ → ℕ → Slot P → List ℕ
number_if q n s = if extends q s then n ∷ [] else []

-- the numbers of the records that do, of so many from a number on, ascending
unfoldable pub numbers_from : {P : Type 0} → ℕ → (ℕ → Slot P) → ℕ → ℕ → List ℕ
numbers_from q slot first zero = []
numbers_from q slot first (suc count) =
    numbers_from q slot first count ++ number_if q (first + count) (slot (first + count))

-- the records that extend base records, of so many from a number on, were taken behind those that were known
abbrev pub HasTaken : {P : Type 0} → (ℕ → Slot P) → ℕ → ℕ → Extensions → Extensions → Type 0
HasTaken slot first count old new = (q : ℕ) → extending new q ≡ extending old q ++ numbers_from q slot first count

-- these are all of a volume, where f gives the bytes of each cluster
abbrev pub AreExtensions : Opened → (ℕ → List ℕ) → Extensions → Type 0
AreExtensions o f extensions = (q : ℕ) → extending extensions q
    ≡ numbers_from q (record_at o f) 0 (initialised_count o.geometry o.map)
