-- Reading mapping pairs from left to right, as a function on lists: the runs, up to the closing 0 or to the first wrong
-- header. The relation stands in `Spelling`; laws tie the two. The words are ours.
use Rattle.std.specs.Prelude.{◌+◌, ◌-◌, ◌/◌, ◌%◌, ◌^◌, ◌+ℤ◌, ◌==◌, ◌&&◌, ℕ, zero, suc, pos, List, [], ◌∷◌, ◌++◌, length, map, drop, Option, Some, None, option_map, Result, Ok, Err, Bool, true, false, nat_le, if◌then◌else◌}
use Rattle.ntfs_runs.specs.declared.run.Run.{Run}
use Rattle.ntfs_runs.specs.declared.fault.BadPairs.{BadPairs}
use Rattle.ntfs_runs.specs.declared.front.Front.{Front}
use Rattle.ntfs_runs.specs.declared.front.Front.TheVariants.{Closing, Wrong, Pair}
use Rattle.ntfs_runs.specs.Number.{signed, between}
use Rattle.ntfs_runs.specs.Spelling.{last_after}

-- the length in the first n bytes, where it is at least 1 and there is room for it
abbrev pub length_in : ℕ → ℕ → List ℕ → Option ℕ
length_in room n bytes = between 1 room (signed n bytes)

-- the LCN that n bytes of a delta give behind the last one, or a hole where n is 0; an LCN is at most 2 ^ 48
abbrev pub lcn_in : ℕ → ℕ → List ℕ → Option (Option ℕ)
lcn_in last zero bytes = Some None
lcn_in last (suc n) bytes = option_map Some (between 0 (2 ^ 48) (pos last +ℤ signed (suc n) bytes))

-- the run of these two
abbrev pub front_of : ℕ → Option ℕ → Option (Option ℕ) → Front
front_of size (Some count) (Some lcn) = Pair (record { length = count; lcn = lcn }) size
front_of size (Some count) None = Wrong
front_of size None lcn = Wrong

-- the sizes that a header tells are right, and the bytes are there
abbrev pub has_sizes : ℕ → ℕ → ℕ → Bool
has_sizes n m left = nat_le 1 n && nat_le n 8 && nat_le m 8 && nat_le (n + m) left

-- a pair of n bytes of length and m of delta behind its header
unfoldable pub pair_in : ℕ → ℕ → ℕ → ℕ → List ℕ → Front
pair_in last room n m rest =
    if has_sizes n m (length rest)
    then front_of (1 + n + m) (length_in room n rest) (lcn_in last m (drop n rest))
    else Wrong

-- what stands in front of the bytes, behind the last LCN and with room for so many clusters
unfoldable pub front_at : ℕ → ℕ → List ℕ → Front
front_at last room [] = Wrong
front_at last room (header ∷ rest) = if header == 0 then Closing else pair_in last room (header % 16) (header / 16) rest

-- what reading gave: the runs, whether all was right, and the place of the closing 0 or of the first wrong header
pub record Reading : Type 0 where
  pub runs : List Run
  pub is_right : Bool
  pub place : ℕ

-- a run in front of what reading gave
abbrev pub with_run : Run → Reading → Reading
with_run run read = record { runs = run ∷ read.runs; is_right = read.is_right; place = read.place }

-- reading goes on behind so many bytes that belong to the pair before; last is the last LCN, room the clusters that are
-- left, place the place of the bytes
unfoldable pub reading_from : ℕ → ℕ → ℕ → ℕ → List ℕ → Reading
reading_from skip last room place [] = record { runs = []; is_right = false; place = place }
reading_from (suc skip) last room place (byte ∷ bytes) = reading_from skip last room (suc place) bytes
reading_from zero last room place (byte ∷ bytes) =
    elim (front_at last room (byte ∷ bytes)) [
      | Closing ↦ record { runs = []; is_right = true; place = place }
      | Wrong ↦ record { runs = []; is_right = false; place = place }
      | Pair run size ↦
          with_run run (reading_from (size - 1) (last_after last run.lcn) (room - run.length) (suc place) bytes)
    ]

-- what reading the bytes of mapping pairs gives
unfoldable pub reading : List ℕ → Reading
reading bytes = reading_from 0 0 (2 ^ 48) 0 bytes

-- runs, and then a fault at this place
abbrev pub with_fault : List Run → ℕ → List (Result Run BadPairs)
with_fault runs place = map Ok runs ++ Err (record { place = place }) ∷ []

-- what an iterator over the pairs gives: the runs, and then the fault where one stands
abbrev pub items : Reading → List (Result Run BadPairs)
items read = map Ok read.runs ++ (if read.is_right then [] else Err (record { place = read.place }) ∷ [])

-- what is left of it, in front of these bytes
abbrev pub items_left : Bool → ℕ → ℕ → ℕ → List ℕ → List (Result Run BadPairs)
items_left true last room place bytes = []
items_left false last room place bytes = items (reading_from 0 last room place bytes)
