-- The bits of a byte, and of bytes in a row.
use Rattle.std.proofs.Common.{◌≡◌, ◌+◌, ◌/◌, ◌%◌, ◌<◌, ◌≤◌, ℕ, Bool, List, nat_eq, slice_index, ap, ◌∙◌, arith}
use Rattle.std.specs.Int.{bit_at}
use Rattle.ntfs_bitmap.specs.Bits.{bit_of}

-- the bits of a byte whose bits are all the same
pub whole-byte : (bits : List ℕ) (at byte : ℕ) (bit : Bool) → at % 8 ≡ 0 → slice_index bits (at / 8) ≡ byte
    → ((i : ℕ) → i < 8 → nat_eq (bit_at byte i) 1 ≡ bit) → (place : ℕ) → at ≤ place → place < at + 8
    → bit_of bits place ≡ bit
unfolding bit_of
whole-byte bits at byte bit aligned is same place from below =
    let byte_same : place / 8 ≡ at / 8 = omega (arith, aligned, from, below) in
    ap (λ k. nat_eq (bit_at (slice_index bits k) (place % 8)) 1) byte_same
    ∙ ap (λ b. nat_eq (bit_at b (place % 8)) 1) is ∙ same (place % 8) (omega arith)
