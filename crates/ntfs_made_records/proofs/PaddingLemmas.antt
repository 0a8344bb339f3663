-- How long what is spelled is, and what stands where in it.
use Rattle.std.proofs.Common.{◌≡◌, ◌≤◌, ◌+◌, ◌-◌, ◌*◌, ◌%◌, ℕ, List, [], ◌∷◌, ◌++◌, length, take, replicate, refl, ap, ◌∙◌, append_assoc, arith}
use Rattle.std.proofs.lemmas.List.{length-append, length-replicate}
use Rattle.std.proofs.Math.Seq.{take-append_seam, drop-append_seam}
use Rattle.ntfs_base.specs.Bytes.{piece_at}
use Rattle.ntfs_make.specs.Fields.{utf16_bytes, with_padding, zero_bytes}

-- bytes with padding are a multiple of 8 long, and the padding is short
pub record IsPadded (bytes : List ℕ) : Type 0 where
  pub aligned : length (with_padding bytes) % 8 ≡ 0
  pub least : length bytes ≤ length (with_padding bytes)
  pub most : length (with_padding bytes) ≤ length bytes + 7

-- the padding
pub padding-of : (bytes : List ℕ) → (zeros : List ℕ) × (with_padding bytes ≡ bytes ++ zeros)
unfolding with_padding
padding-of bytes = (zero_bytes ((8 - length bytes % 8) % 8), refl)

length-padded : (bytes : List ℕ) → length (with_padding bytes) ≡ length bytes + (8 - length bytes % 8) % 8
unfolding with_padding zero_bytes
length-padded bytes =
    length-append bytes (replicate ((8 - length bytes % 8) % 8) 0)
    ∙ ap (λ n. length bytes + n) (length-replicate ((8 - length bytes % 8) % 8) 0)

pub padded : (bytes : List ℕ) → IsPadded bytes
padded bytes =
    let long = length-padded bytes in
    record { aligned = omega arith; least = omega arith; most = omega arith }

-- behind a front that needs no padding, the padding is that of the rest
pub padding-behind : (front bytes : List ℕ) → length front % 8 ≡ 0
    → with_padding (front ++ bytes) ≡ front ++ with_padding bytes
unfolding with_padding
padding-behind front bytes aligned =
    let long : length (front ++ bytes) ≡ length front + length bytes = length-append front bytes in
    let same : (8 - length (front ++ bytes) % 8) % 8 ≡ (8 - length bytes % 8) % 8 = omega arith in
    append_assoc front bytes (zero_bytes ((8 - length (front ++ bytes) % 8) % 8))
    ∙ ap (λ n. front ++ (bytes ++ zero_bytes n)) same

pub length-units : (letters : List ℕ) → length (utf16_bytes letters) ≡ 2 * length letters
unfolding utf16_bytes
length-units [] = refl
length-units (letter ∷ letters) = let rest = length-units letters in omega arith

-- what stands between a front and a rest
pub piece-between : (place count : ℕ) (front bytes rest : List ℕ) → place ≡ length front → count ≡ length bytes
    → piece_at place count (front ++ (bytes ++ rest)) ≡ bytes
unfolding piece_at
piece-between place count front bytes rest begins long =
    rw (begins, long) (ap (take (length bytes)) (drop-append_seam front (bytes ++ rest)) ∙ take-append_seam bytes rest)
