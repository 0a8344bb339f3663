-- A set of numbers below a bound, as `$Bitmap` is one of the clusters in use below the count of clusters (the
-- Linux-NTFS documentation, "$Bitmap"). Contracts see a `ClusterSet` as such a set, whatever holds it; the words are
-- ours.
use Rattle.std.specs.Prelude.{◌≡◌, ◌+◌, ◌-◌, ◌*◌, ◌<◌, ◌≤◌, ◌||◌, ◌&&◌, ◌++◌, ℕ, Bool, true, false, List, [], ◌∷◌, length, slice_index_or, zero, suc, Option, Some, None, Result, Ok, Err, nat_le, nat_lt, if◌then◌else◌}
use Rattle.ntfs_bitmap.specs.Bits.{bit_of}
use Rattle.ntfs_bitmap.specs.declared.fault.ClaimFault.{ClaimFault}
use Rattle.ntfs_bitmap.specs.declared.fault.ClaimFault.TheVariants as fault

-- a set of numbers below a bound: for each number below the bound, in order, whether it is in. Two sets with one bound
-- and the same numbers are equal
pub record Clusters : Type 0 where
  pub flags : List Bool

-- the bound
unfoldable pub bound_of : Clusters → ℕ
bound_of set = length set.flags

-- whether a number is in
unfoldable pub has : Clusters → ℕ → Bool
has set cluster = slice_index_or set.flags cluster false

-- the answers of a test at the numbers below a bound
abbrev pub answers : (ℕ → Bool) → ℕ → List Bool
answers test zero = []
answers test (suc n) = answers test n ++ test n ∷ []

-- the set of the numbers below a bound that pass a test
unfoldable pub set_where : ℕ → (ℕ → Bool) → Clusters
set_where bound test = record { flags = answers test bound }

-- the set of no number
abbrev pub empty_set : ℕ → Clusters
empty_set bound = set_where bound (λ _. false)

-- whether a number is one of so many from a first one on
abbrev pub in_run : ℕ → ℕ → ℕ → Bool
in_run first length cluster = nat_le first cluster && nat_lt cluster (first + length)

-- the set with a run added
unfoldable pub with_claim : ℕ → ℕ → Clusters → Clusters
with_claim first length set = set_where (bound_of set) (λ cluster. has set cluster || in_run first length cluster)

-- how many numbers below one pass a test
abbrev pub count_where : (ℕ → Bool) → ℕ → ℕ
count_where test zero = 0
count_where test (suc n) = count_where test n + (if test n then 1 else 0)

-- how many numbers below one are in
unfoldable pub count_below : Clusters → ℕ → ℕ
count_below set n = count_where (has set) n

-- the numbers below one that are in, in order
abbrev pub members : Clusters → ℕ → List ℕ
members set zero = []
members set (suc n) = if has set n then members set n ++ n ∷ [] else members set n

-- a number of a run is in
pub record IsTaken (set : Clusters) (first length cluster : ℕ) : Type 0 where
  pub from : first ≤ cluster
  pub below : cluster < first + length
  pub is_in : has set cluster ≡ true

-- a number from one on, below a limit, isn't in
pub record IsFree (set : Clusters) (from limit cluster : ℕ) : Type 0 where
  pub reached : from ≤ cluster
  pub below : cluster < limit
  pub is_free : has set cluster ≡ false

-- so many numbers in a row, below a limit, aren't in, and no more in that row
pub record IsFreeRun (set : Clusters) (limit first length : ℕ) : Type 0 where
  pub some : 0 < length
  pub within : first + length ≤ limit
  pub free : (cluster : ℕ) → first ≤ cluster → cluster < first + length → has set cluster ≡ false
  pub whole : first + length < limit → has set (first + length) ≡ true

-- a number from `start` on, below the bound, is in the set where its bit isn't set, or the other way round; number
-- `start + i` has bit i (the Linux-NTFS documentation, "$Bitmap")
pub record Differs (set : Clusters) (start : ℕ) (bits : List ℕ) (cluster : ℕ) : Type 0 where
  pub from : start ≤ cluster
  pub below : cluster < bound_of set
  pub has_bit : cluster - start < 8 * length bits
  pub differs : has set cluster ≡ bit_of bits (cluster - start) → ⊥

-- the number that a refused claim names
abbrev pub taken_in : Result (Unit {0}) ClaimFault → Option ℕ
taken_in (Ok done) = None
taken_in (Err (fault.Taken cluster)) = Some cluster
taken_in (Err fault.NoMemory) = None
