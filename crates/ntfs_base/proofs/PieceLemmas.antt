-- Pieces of bytes at a place, and the numbers in them.
use Rattle.std.proofs.Common.{◌≡◌, ◌≤◌, ◌<◌, ◌+◌, ◌*◌, ◌/◌, ◌%◌, ◌^◌, ℕ, zero, suc, List, [], ◌∷◌, ◌++◌, length, take, drop, refl, sym, ap, ◌∙◌, arith}
use Rattle.std.specs.Int.{byte_at, bytes_low_first}
use Rattle.std.proofs.Math.Nat.{div-div-eq-div-mul, one-le-pow, pow-succ'}
use Rattle.std.proofs.lemmas.Nat.{div-mul-add, mod-mul-add}
use Rattle.std.proofs.lemmas.List.{append-nil, drop-drop, get_or-drop, length-take, length-drop}
use Rattle.std.proofs.Math.Seq.{drop-append-add}
use Rattle.byteorder.specs.Endian.{little_bytes, little_number}
use Rattle.byteorder.specs.Numbers.{little_from-cons, little_number-reads_back}
use Rattle.ntfs_base.specs.Bytes.{AreBytes, number_at, piece_at}
use Rattle.ntfs_base.proofs.BytesLemmas.{number_at-take, number_at-drop, take-drop-take, take-drop-append, little_number-drop}

-- a piece of a piece
pub piece-piece : (k n place m : ℕ) (bytes : List ℕ) → k + n ≤ m
    → piece_at k n (piece_at place m bytes) ≡ piece_at (place + k) n bytes
unfolding piece_at
piece-piece k n place m bytes within =
    take-drop-take k n m (drop place bytes) within ∙ ap (take n) (drop-drop k place bytes)

-- a piece of what stands in front of a rest
pub piece-front : (place n : ℕ) (front rest : List ℕ) → place + n ≤ length front
    → piece_at place n (front ++ rest) ≡ piece_at place n front
unfolding piece_at
piece-front place n front rest within = take-drop-append place n front rest within

-- a piece of what stands behind a front
pub piece-behind : (place n : ℕ) (front rest : List ℕ)
    → piece_at (length front + place) n (front ++ rest) ≡ piece_at place n rest
unfolding piece_at
piece-behind place n front rest = ap (take n) (drop-append-add front rest place)

-- a piece is never longer than asked
pub length-piece-le : (place n : ℕ) (bytes : List ℕ) → length (piece_at place n bytes) ≤ n
unfolding piece_at
length-piece-le place n bytes = omega (arith, length-take n (drop place bytes))

-- a piece within the bytes has the length that was asked
pub length-piece : (place n : ℕ) (bytes : List ℕ) → place + n ≤ length bytes → length (piece_at place n bytes) ≡ n
unfolding piece_at
length-piece place n bytes within = omega (arith, length-take n (drop place bytes), length-drop place bytes)

-- a number in a piece
pub number-piece : (n k place m : ℕ) (bytes : List ℕ) → k + n ≤ m
    → number_at n k (piece_at place m bytes) ≡ number_at n (place + k) bytes
unfolding piece_at
number-piece n k place m bytes within = number_at-take n k m (drop place bytes) within ∙ number_at-drop n k place bytes

-- a number is one of its own piece
pub number-own : (n place : ℕ) (bytes : List ℕ) → number_at n place bytes ≡ number_at n 0 (piece_at place n bytes)
number-own n place bytes =
    ap (λ p. number_at n p bytes) (omega arith) ∙ sym (number-piece n 0 place n bytes (omega arith))

-- equal pieces say equal numbers
pub number-same : (n place there : ℕ) (bytes others : List ℕ) → piece_at place n bytes ≡ piece_at there n others
    → number_at n place bytes ≡ number_at n there others
number-same n place there bytes others same =
    number-own n place bytes ∙ ap (number_at n 0) same ∙ sym (number-own n there others)

-- a number of n bytes is read from its bytes
pub number-bytes : (n x : ℕ) → x < 256 ^ n → number_at n 0 (little_bytes n x) ≡ x
unfolding number_at
number-bytes n x fits =
    ap (little_number n) (sym (append-nil (little_bytes n x))) ∙ little_number-reads_back n x [] fits

pow_pos : (n : ℕ) → 0 < 256 ^ n
pow_pos n = let h = one-le-pow n 256 (omega arith) in omega arith

byte-next : (i a m : ℕ) → a < 256 → byte_at (suc i) (a + 256 * m) ≡ byte_at i m
byte-next zero a m fits =
    let pow : 256 ^ 1 ≡ 256 = refl in
    let low : (m * 256 + a) / 256 ≡ m = div-mul-add m 256 a fits in
    let order : a + 256 * m ≡ m * 256 + a = omega arith in
    rw (pow, order, low) refl
byte-next (suc i) a m fits =
    let shift : (a + 256 * m) / 256 ^ suc (suc i) ≡ (a + 256 * m) / 256 / 256 ^ suc i =
    ap (λ (p : ℕ). (a + 256 * m) / p) (pow-succ' 256 (suc i))
    ∙ sym (div-div-eq-div-mul (a + 256 * m) 256 (256 ^ suc i)) in
    let low : (m * 256 + a) / 256 ≡ m = div-mul-add m 256 a fits in
    let order : a + 256 * m ≡ m * 256 + a = omega arith in
    rw (shift, order, low) refl

bytes-next : (i n a m : ℕ) → a < 256 → bytes_low_first (suc i) n (a + 256 * m) ≡ bytes_low_first i n m
bytes-next i zero a m fits = refl
bytes-next i (suc n) a m fits =
    let first = byte-next i a m fits in let rest = bytes-next (suc i) n a m fits in rw (first, rest) refl

-- the bytes of the number in n bytes are these bytes
bytes-number : (n : ℕ) (xs : List ℕ) → AreBytes xs → n ≤ length xs → little_bytes n (little_number n xs) ≡ take n xs
bytes-number zero xs are within = refl
bytes-number (suc n) [] are within = absurd (omega arith)
bytes-number (suc n) (x ∷ xs) are within =
    let fits : x < 256 = are 0 in
    let rest : AreBytes xs = λ i. are (suc i) in
    let number = little_from-cons 0 n x xs in
    let low : (x + 256 * little_number n xs) % 256 ≡ x = ap (λ (n : ℕ). n % 256) (omega arith)
    ∙ mod-mul-add (little_number n xs) 256 x fits in
    let next = bytes-next 0 n x (little_number n xs) fits in
    let all = bytes-number n xs rest (omega arith) in
    rw (number, low, next, all) refl

pub bytes-piece : (n place : ℕ) (bytes : List ℕ) → AreBytes bytes → place + n ≤ length bytes
    → little_bytes n (number_at n place bytes) ≡ piece_at place n bytes
unfolding piece_at number_at
bytes-piece n place bytes are within =
    ap (little_bytes n) (sym (little_number-drop n place bytes))
    ∙ bytes-number n (drop place bytes) (λ i. rw (get_or-drop place bytes i 0) (are (place + i)))
    (omega (arith, length-drop place bytes))
