-- The signed numbers of mapping pairs: how bytes spell one, and the fewest bytes that do. Where no source is named, the
-- word is ours.
use Rattle.std.specs.Prelude.{◌^◌, ◌&&◌, ℕ, ℤ, pos, negsuc, List, Option, Some, None, nat_le, nat_lt, if◌then◌else◌}
use Rattle.std.specs.Int.{w64}
use Rattle.byteorder.specs.Endian.{little_number, little_bytes, twos_complement, low_bytes}

-- the signed number in the first n bytes, the lowest first, as two's complement: lengths and LCN deltas are such
-- numbers (the Linux-NTFS documentation, "Data Runs")
unfoldable pub signed : ℕ → List ℕ → ℤ
signed n bytes = twos_complement n (little_number n bytes)

-- a number from low to high, where the signed number is one
unfoldable pub between : ℕ → ℕ → ℤ → Option ℕ
between low high (pos n) = if nat_le low n && nat_le n high then Some n else None
between low high (negsuc n) = None

-- how far a signed number is from the sign's border: n for n, and also for - n - 1
unfoldable pub reach : ℤ → ℕ
reach (pos n) = n
reach (negsuc n) = n

-- the fewest bytes, from 1 to 8, in which a signed number of this reach stands: n bytes hold a reach below
-- 2 ^ (8 * n - 1) (the Linux-NTFS documentation, "Data Runs", on the sizes in a header)
unfoldable pub size_for : ℕ → ℕ
size_for m =
    if nat_lt m (2 ^ 7) then 1 else if nat_lt m (2 ^ 15) then 2 else if nat_lt m (2 ^ 23) then 3
    else if nat_lt m (2 ^ 31) then 4 else if nat_lt m (2 ^ 39) then 5 else if nat_lt m (2 ^ 47) then 6
    else if nat_lt m (2 ^ 55) then 7 else 8

-- the n lowest bytes of a signed number, the lowest first
unfoldable pub bytes_of : ℕ → ℤ → List ℕ
bytes_of n z = little_bytes n (low_bytes w64 n z)

-- the shortest bytes of a signed number of 64 bits
unfoldable pub shortest : ℤ → List ℕ
shortest z = bytes_of (size_for (reach z)) z
