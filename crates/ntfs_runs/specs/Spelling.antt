-- Which bytes spell which runs, as a relation (the Linux-NTFS documentation, "Data Runs"). Where no source is named,
-- the word is ours.
use Rattle.std.specs.Prelude.{◌⊎◌, ◌<ℤ◌, ◌/◌, ◌%◌, drop, ◌≡◌, ◌≢◌, ◌<◌, ◌≤◌, ◌+◌, ◌-◌, ◌*◌, ◌^◌, ◌+ℤ◌, ℕ, pos, List, [], ◌∷◌, ◌++◌, length, Option, Some, None}
use Rattle.ntfs_runs.specs.declared.run.Run.{Run}
use Rattle.ntfs_runs.specs.Number.{signed}

-- a mapping pair: a header byte whose low nibble is the number of bytes of the length and whose high nibble that of the
-- LCN delta, and then these bytes (the Linux-NTFS documentation, "Data Runs")
abbrev pub pair : List ℕ → List ℕ → List ℕ
pair count delta = (length count + 16 * length delta) ∷ count ++ delta

-- the last LCN that isn't a hole's, after a run; the first LCN counts from 0
abbrev pub last_after : ℕ → Option ℕ → ℕ
last_after last None = last
last_after last (Some lcn) = lcn

-- a hole has no delta; an LCN is the last one and the delta, and at most 2 ^ 48
abbrev pub IsPlace : ℕ → List ℕ → Option ℕ → Type 0
IsPlace last delta None = delta ≡ []
IsPlace last delta (Some lcn) =
    (0 < length delta) × (pos lcn ≡ pos last +ℤ signed (length delta) delta) × (lcn ≤ 2 ^ 48)

-- these bytes of a length and a delta are a pair for the run, behind the last LCN and with room for so many clusters:
-- the sizes are at most 8, the length is there and at least 1 (the Linux-NTFS documentation, "Data Runs"; the limit
-- 2 ^ 48 is ours)
pub record IsPair (last room : ℕ) (count delta : List ℕ) (run : Run) : Type 0 where
  pub count_least : 1 ≤ length count
  pub count_most : length count ≤ 8
  pub delta_most : length delta ≤ 8
  pub number : signed (length count) count ≡ pos run.length
  pub least : 1 ≤ run.length
  pub most : run.length ≤ room
  pub place : IsPlace last delta run.lcn

-- the bytes are whole pairs for these runs, one after another; the room shrinks with each length
unfoldable pub PairsFrom : ℕ → ℕ → List ℕ → List Run → Type 0
PairsFrom last room bytes [] = bytes ≡ []
PairsFrom last room bytes (run ∷ runs) =
    (count : List ℕ) × (delta : List ℕ) × (rest : List ℕ) × (bytes ≡ pair count delta ++ rest)
    × IsPair last room count delta run × PairsFrom (last_after last run.lcn) (room - run.length) rest runs

-- the bytes spell the runs: a pair for each, and the closing header 0 (the Linux-NTFS documentation, "Data Runs")
unfoldable pub Spells : List ℕ → List Run → Type 0
Spells bytes runs = (pairs : List ℕ) × (bytes ≡ pairs ++ 0 ∷ []) × PairsFrom 0 (2 ^ 48) pairs runs

-- a front of the bytes spells the runs; what follows its closing 0 plays no part
unfoldable pub SpelledInFront : List ℕ → List Run → Type 0
SpelledInFront bytes runs = (text : List ℕ) × (more : List ℕ) × (bytes ≡ text ++ more) × Spells text runs

-- the last LCN that isn't a hole's, and the clusters that are left, after these runs
abbrev pub last_of : ℕ → List Run → ℕ
last_of last [] = last
last_of last (run ∷ runs) = last_of (last_after last run.lcn) runs

abbrev pub room_of : ℕ → List Run → ℕ
room_of room [] = room
room_of room (run ∷ runs) = room_of (room - run.length) runs

-- no header that is right stands in front: neither the closing 0 nor the header of a whole pair
unfoldable pub IsWrongHeader : ℕ → ℕ → List ℕ → Type 0
IsWrongHeader last room bytes =
    ((more : List ℕ) → bytes ≢ 0 ∷ more)
    × ((run : Run) (count delta more : List ℕ) → IsPair last room count delta run → bytes ≢ pair count delta ++ more)

-- behind whole pairs for these runs stands, at this place, the first header that isn't right
unfoldable pub IsWrongAfter : List ℕ → List Run → ℕ → Type 0
IsWrongAfter bytes runs place =
    (front : List ℕ) × (rest : List ℕ) × (bytes ≡ front ++ rest) × (length front ≡ place)
    × PairsFrom 0 (2 ^ 48) front runs × IsWrongHeader (last_of 0 runs) (room_of (2 ^ 48) runs) rest

-- why a header that tells n bytes of length and m of delta isn't right, behind the last LCN and with room for so many
-- clusters: a size of 0 or above 8, bytes that end too early, a length below 1 or that passes the room, an LCN below 0
-- or above 2 ^ 48 (the Linux-NTFS documentation, "Data Runs", on sizes and signs; the limits are ours)
abbrev pub HasPairCause : ℕ → ℕ → ℕ → ℕ → List ℕ → Type 0
HasPairCause last room n m rest =
    (n ≡ 0) ⊎ ((8 < n) ⊎ ((8 < m) ⊎ ((length rest < n + m) ⊎ ((signed n rest <ℤ pos 1) ⊎ ((pos room <ℤ signed n rest)
    ⊎ ((0 < m) × (((pos last +ℤ signed m (drop n rest)) <ℤ pos 0)
    ⊎ (pos (2 ^ 48) <ℤ (pos last +ℤ signed m (drop n rest))))))))))

-- the bytes end before a header, or the header isn't 0 and has one of these causes
abbrev pub IsCaused : ℕ → ℕ → List ℕ → Type 0
IsCaused last room [] = Unit {0}
IsCaused last room (header ∷ rest) = (header ≢ 0) × HasPairCause last room (header % 16) (header / 16) rest
