-- What holds of the runs that hold a set: an ordered map from the first number of each longest run to its length. No
-- public contract speaks of them; the words are ours.
use Rattle.std.specs.Prelude.{◌≡◌, ◌≢◌, ◌+◌, ◌-◌, ◌<◌, ◌≤◌, ◌||◌, ℕ, Bool, false, Option, Some, None, IsSome, zero, suc, nat_lt}
use Rattle.std.specs.BTreeMap.{BTreeMap, get}
use Rattle.std.specs.Ordering.{nat_cmp}
use Rattle.ntfs_bitmap.specs.ClusterSet.{Clusters, set_where}

-- the length of the run that begins at each number
abbrev pub Lengths : Type 0
Lengths = ℕ → Option ℕ

-- those of an ordered map
abbrev pub lengths_of : BTreeMap ℕ ℕ → Lengths
lengths_of runs first = get nat_cmp runs first

-- whether a run of this length, from its first number on, has a number
abbrev pub covers : Option ℕ → ℕ → ℕ → Bool
covers None first cluster = false
covers (Some length) first cluster = nat_lt cluster (first + length)

-- whether one of the runs that begin at a number or before it has a cluster
abbrev pub is_covered_from : Lengths → ℕ → ℕ → Bool
is_covered_from runs cluster zero = covers (runs 0) 0 cluster
is_covered_from runs cluster (suc first) =
    covers (runs (suc first)) (suc first) cluster || is_covered_from runs cluster first

-- whether a run has a cluster
unfoldable pub is_covered : Lengths → ℕ → Bool
is_covered runs cluster = is_covered_from runs cluster cluster

-- the runs have numbers, lie below the bound, and are the longest: between two of them a number is free
pub record AreLongestRuns (bound : ℕ) (runs : Lengths) : Type 0 where
  pub some : (first length : ℕ) → runs first ≡ Some length → 0 < length
  pub within : (first length : ℕ) → runs first ≡ Some length → first + length ≤ bound
  pub apart : (first length next more : ℕ) → runs first ≡ Some length → runs next ≡ Some more → first < next
      → first + length < next

-- the set that runs below a bound hold
abbrev pub set_of : ℕ → BTreeMap ℕ ℕ → Clusters
set_of bound runs = set_where bound (is_covered (lengths_of runs))

-- no run has one of so many numbers from a first one on
abbrev pub AreFree : Lengths → ℕ → ℕ → Type 0
AreFree runs first length = (cluster : ℕ) → first ≤ cluster → cluster < first + length → is_covered runs cluster ≡ false

-- the last run that begins at a cluster or before it
pub record IsLastUpTo (runs : Lengths) (cluster first length : ℕ) : Type 0 where
  pub begins : first ≤ cluster
  pub is : runs first ≡ Some length
  pub last : (next : ℕ) → next ≤ cluster → first < next → runs next ≡ None

-- a run that has a cluster ends so
pub record IsEndAt (runs : Lengths) (cluster end : ℕ) : Type 0 where
  pub first : ℕ
  pub begins : first ≤ cluster
  pub ends : cluster < end
  pub is : runs first ≡ Some (end - first)

-- from a cluster on the first run below the bound begins there, or there is none and it is the bound
pub record IsNextFirst (bound : ℕ) (runs : Lengths) (cluster next : ℕ) : Type 0 where
  pub from : cluster ≤ next
  pub within : next ≤ bound
  pub begins : next < bound → IsSome (runs next)
  pub none_between : (n : ℕ) → cluster ≤ n → n < next → runs n ≡ None

-- the length of the run that ends where a cluster begins, or 0 where none does
pub record IsLengthBefore (runs : Lengths) (cluster before : ℕ) : Type 0 where
  pub run : 0 < before → (before ≤ cluster) × (runs (cluster - before) ≡ Some before)
  pub none : before ≡ 0 → (first length : ℕ) → runs first ≡ Some length → first + length ≡ cluster → ⊥

-- the length of the run that begins at a cluster, or 0 where none does
pub record IsLengthFrom (runs : Lengths) (cluster after : ℕ) : Type 0 where
  pub run : 0 < after → runs cluster ≡ Some after
  pub none : after ≡ 0 → runs cluster ≡ None

-- a run was added, joined with the runs before it and after it
pub record IsJoined (old : Lengths) (first length : ℕ) (new : Lengths) : Type 0 where
  pub before : ℕ
  pub after : ℕ
  pub is_before : IsLengthBefore old first before
  pub is_after : IsLengthFrom old (first + length) after
  pub gone : new (first + length) ≡ None
  pub run : new (first - before) ≡ Some (before + length + after)
  pub others : (n : ℕ) → n ≢ first + length → n ≢ first - before → new n ≡ old n
