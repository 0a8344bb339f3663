-- Rules C8 and C9, of the clusters that records own (the Linux-NTFS documentation, "Data Runs" and "$Bitmap"; the rules
-- are ours). They look at the clusters' numbers, and at the bytes of $Bitmap.
use Rattle.std.specs.Prelude.{◌+◌, ◌==◌, ◌&&◌, not, ℕ, zero, suc, Bool, true, List, [], ◌∷◌, Option, Some, None, nat_lt, if◌then◌else◌}
use Rattle.ntfs_rules.specs.Records.{has_bit}
use Rattle.ntfs_survey.specs.Owned.{Claim}

-- 1 where it holds, else 0
abbrev pub count_if : Bool → ℕ
count_if holds = if holds then 1 else 0

-- how many of the claims are of cluster k
unfoldable pub times : ℕ → List (Claim ℕ) → ℕ
times k [] = 0
times k (claim ∷ claims) = count_if (claim.cluster == k) + times k claims

-- the record of the first claim of a cluster that is taken, by claims before it or by one of these
unfoldable pub first_double : List (Claim ℕ) → List (Claim ℕ) → Option ℕ
first_double taken [] = None
first_double taken (claim ∷ claims) =
    if times claim.cluster taken == 0 then first_double (claim ∷ taken) claims else Some claim.number

-- C8: no cluster is owned twice; the record that is named owns the first one that was taken before it, by record, place
-- and VCN
unfoldable pub c8 : List (Claim ℕ) → Option ℕ
c8 claims = first_double [] claims

-- ---- C9

-- cluster k is owned
unfoldable pub is_owned : List (Claim ℕ) → ℕ → Bool
is_owned claims k = nat_lt 0 (times k claims)

-- a test holds of all numbers below one
abbrev pub holds_below : ℕ → (ℕ → Bool) → Bool
holds_below zero test = true
holds_below (suc n) test = holds_below n test && test n

-- a bit is 1 exactly where a cluster is owned
abbrev pub is_same_bit : Bool → Bool → Bool
is_same_bit owned bit = if owned then bit else not bit

-- below n, the bits that are 1 are those of the clusters that pass a test
abbrev pub are_bits_of : (ℕ → Bool) → ℕ → List ℕ → Bool
are_bits_of test n bytes = holds_below n (λ k. is_same_bit (test k) (has_bit bytes k))

-- record 6 is $Bitmap, as `is_bitmap` says, and its bits that are 1 are those of the clusters that pass a test
abbrev pub c9_by : Bool → (ℕ → Bool) → ℕ → List ℕ → Option ℕ
c9_by is_bitmap test n bytes = if is_bitmap && are_bits_of test n bytes then None else Some 6

-- C9: record 6 is what rule C15 says of it, and the bits of its stream that are 1, of all clusters of the volume, are
-- those of the owned ones
unfoldable pub c9 : Bool → ℕ → List (Claim ℕ) → List ℕ → Option ℕ
c9 is_bitmap n claims bytes = c9_by is_bitmap (is_owned claims) n bytes
