-- How the words of `specs/Names` read the front of a name.
use Rattle.std.proofs.Common.{◌≡◌, ◌≤◌, ◌<◌, ◌+◌, ◌*◌, ◌/◌, ℕ, zero, suc, List, [], ◌∷◌, ◌++◌, length, take, drop, refl, ap, ◌∙◌, arith, slice_index, append-nil, ◌%◌}
use Rattle.ntfs_base.proofs.BytesLemmas.{number_at-drop}
use Rattle.std.proofs.lemmas.List.{take_more}
use Rattle.std.proofs.lemmas.Grind.{flat_map-append}
use Rattle.std.specs.List.{flat_map}
use Rattle.std.specs.Char.Escape.{encode_utf16}
use Rattle.byteorder.specs.Endian.{little_number, little_bytes}
use Rattle.ntfs_base.specs.Bytes.{number_at}
use Rattle.ntfs_upcase.specs.Names.{units, unit_bytes}

-- less than two bytes have no unit
pub units-short : (bytes : List ℕ) → length bytes < 2 → units bytes ≡ []
unfolding units
units-short [] short = refl
units-short (b ∷ []) short = refl
units-short (b ∷ c ∷ rest) short = absurd (omega arith)

-- the first unit stands in the first two bytes
pub units-first : (bytes : List ℕ) → 2 ≤ length bytes → units bytes ≡ little_number 2 (take 2 bytes) ∷ units (drop 2 bytes)
unfolding units number_at
units-first [] long = absurd (omega arith)
units-first (b ∷ []) long = absurd (omega arith)
units-first (b ∷ c ∷ rest) long = refl

-- a name has a unit for each two bytes
pub length-units : (bytes : List ℕ) → length (units bytes) ≡ length bytes / 2
unfolding units
length-units [] = refl
length-units (b ∷ []) = refl
length-units (b ∷ c ∷ rest) = omega (arith, length-units rest)

-- the bytes of one unit more
pub unit_bytes-take : (us : List ℕ) (i : ℕ) → i < length us → unit_bytes (take (i + 1) us) ≡ unit_bytes (take i us) ++ little_bytes 2 (slice_index us i)
unfolding unit_bytes
unit_bytes-take us i within =
    rw (take_more us i 0 within, flat_map-append) (ap (λ last. flat_map (little_bytes 2) (take i us) ++ last) (append-nil _))

-- the bytes of two lists of units stand one behind the other
pub unit_bytes-append : (us vs : List ℕ) → unit_bytes (us ++ vs) ≡ unit_bytes us ++ unit_bytes vs
unfolding unit_bytes
unit_bytes-append us vs = flat_map-append (little_bytes 2) us vs

-- the bytes of one character more
pub unit_bytes-more : (cs : List ℕ) (c : ℕ) → unit_bytes (flat_map encode_utf16 (cs ++ c ∷ [])) ≡ unit_bytes (flat_map encode_utf16 cs) ++ unit_bytes (encode_utf16 c)
unit_bytes-more cs c =
    ap unit_bytes (flat_map-append encode_utf16 cs (c ∷ []) ∙ ap (λ last. flat_map encode_utf16 cs ++ last) (append-nil _))
    ∙ unit_bytes-append (flat_map encode_utf16 cs) (encode_utf16 c)

-- unit i stands in bytes 2 i and 2 i + 1
pub units-index : (bytes : List ℕ) (i : ℕ) → 2 * i + 1 < length bytes → slice_index (units bytes) i ≡ number_at 2 (2 * i) bytes
unfolding units
units-index [] i within = absurd (omega arith)
units-index (low ∷ []) i within = absurd (omega arith)
units-index (low ∷ high ∷ rest) zero within = refl
units-index (low ∷ high ∷ rest) (suc i) within =
    let next = number_at-drop 2 (2 * i) 2 (low ∷ high ∷ rest) in
    units-index rest i (omega arith) ∙ next ∙ ap (λ place. number_at 2 place (low ∷ high ∷ rest)) (omega arith)

-- the units of two names, one behind the other
pub units-append : (bytes more : List ℕ) → length bytes % 2 ≡ 0 → units (bytes ++ more) ≡ units bytes ++ units more
unfolding units number_at
units-append [] more even = refl
units-append (low ∷ []) more even = absurd (omega arith)
units-append (low ∷ high ∷ rest) more even = ap (λ us. number_at 2 0 (low ∷ high ∷ rest) ∷ us) (units-append rest more (omega arith))
