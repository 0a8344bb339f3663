-- The bits of `$Bitmap` (the Linux-NTFS documentation, "$Bitmap").
use Rattle.std.specs.Prelude.{◌≡◌, ◌/◌, ◌%◌, ◌<◌, ◌≤◌, ℕ, Bool, List, slice_index, nat_eq}
use Rattle.std.specs.Int.{bit_at}

-- bit i of the bytes, the lowest bit of each byte first ("$Bitmap": each bit stands for one cluster, in order)
unfoldable pub bit_of : List ℕ → ℕ → Bool
bit_of bits place = nat_eq (bit_at (slice_index bits (place / 8)) (place % 8)) 1

-- a bit from one on, before another, isn't as expected; the word is ours
pub record IsOtherBit (bits : List ℕ) (from to : ℕ) (expected : Bool) (place : ℕ) : Type 0 where
  pub reached : from ≤ place
  pub before : place < to
  pub differs : bit_of bits place ≡ expected → ⊥
