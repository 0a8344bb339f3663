-- The bytes of numbers, and the array of fixups of a block.
use Rattle.std.proofs.Common.{◌≡◌, ◌≤◌, ℕ, zero, suc, List, ◌∷◌, ◌++◌, take, refl, ap, ◌∙◌, arith}
use Rattle.std.specs.Int.{byte_at, bytes_low_first}
use Rattle.byteorder.specs.Endian.{little_bytes}

-- a front of the bytes of a number
take-low_first : (i n m x : ℕ) (rest : List ℕ) → n ≤ m → take n (bytes_low_first i m x ++ rest) ≡ bytes_low_first i n x
take-low_first i zero m x rest within = refl
take-low_first i (suc n) zero x rest within = absurd (omega arith)
take-low_first i (suc n) (suc m) x rest within = ap (λ bytes. byte_at i x ∷ bytes) (take-low_first (suc i) n m x rest (omega arith))

pub front_bytes : (n x : ℕ) (written rest : List ℕ) → n ≤ 8 → written ≡ little_bytes 8 x ++ rest → take n written ≡ little_bytes n x
front_bytes n x written rest within is = ap (take n) is ∙ take-low_first 0 n 8 x rest within
