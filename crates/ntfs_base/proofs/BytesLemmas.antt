-- How the words of `specs/Bytes` read a front, a part, or what was written.
use Rattle.std.proofs.Common.{slice_index, ◌≡◌, ◌≤◌, ◌<◌, ◌^◌, ◌+◌, ◌*◌, ◌-◌, ℕ, zero, suc, List, [], ◌∷◌, ◌++◌, length, take, drop, refl, sym, ap, ◌∙◌, arith, length-append, append_assoc, Some, nat_le}
use Rattle.std.proofs.lemmas.List.{take-append-le, get_or-drop, drop-take, length-take, length-drop}
use Rattle.std.proofs.Math.Seq.{drop-append_seam, take-append_seam}
use Rattle.std.proofs.lemmas.Option.{cond_some}
use Rattle.std.proofs.lemmas.Bool.{leb-true, le-leb}
use Rattle.byteorder.specs.Endian.{little_bytes, little_number}
use Rattle.byteorder.specs.Numbers.{little_from-take, little_from-lt, little_number-reads_back}
use Rattle.ntfs_base.specs.Bytes.{number_at, cluster_at, stream, raw_of, AreBytes}

-- a front of a front
pub take-take : {X : Type 0} (n m : ℕ) (xs : List X) → n ≤ m → take n (take m xs) ≡ take n xs
take-take zero m xs within = refl
take-take (suc n) zero xs within = absurd (omega arith)
take-take (suc n) (suc m) [] within = refl
take-take (suc n) (suc m) (x ∷ xs) within = ap (λ rest. x ∷ rest) (take-take n m xs (omega arith))

-- a part that ends within a front
pub take-drop-take : {X : Type 0} (at n m : ℕ) (xs : List X) → at + n ≤ m
    → take n (drop at (take m xs)) ≡ take n (drop at xs)
take-drop-take at n m xs within =
    let parts : at + (m - at) ≡ m = omega arith in
    let front = drop-take at (m - at) xs in
    ap (take n) (rw parts at front) ∙ take-take n (m - at) (drop at xs) (omega arith)

-- a part that ends within what stands in front of a rest
pub take-drop-append : {X : Type 0} (at n : ℕ) (front rest : List X) → at + n ≤ length front
    → take n (drop at (front ++ rest)) ≡ take n (drop at front)
take-drop-append at n front rest within =
    sym (take-drop-take at n (length front) (front ++ rest) within)
    ∙ ap (λ xs. take n (drop at xs)) (take-append_seam front rest)

-- a number that ends within a front is read from the front
pub number_at-take : (n place m : ℕ) (bytes : List ℕ) → place + n ≤ m
    → number_at n place (take m bytes) ≡ number_at n place bytes
unfolding number_at
number_at-take n place m bytes within = little_from-take place n m bytes within

-- what stands behind a front plays no part
pub number_at-append : (n place : ℕ) (front rest : List ℕ) → place + n ≤ length front
    → number_at n place (front ++ rest) ≡ number_at n place front
number_at-append n place front rest within =
    sym (number_at-take n place (place + n) (front ++ rest) (omega arith))
    ∙ ap (number_at n place) (take-append-le (place + n) front rest within)
    ∙ number_at-take n place (place + n) front (omega arith)

-- a number of the bytes from a place on stands further behind in all bytes
pub number_at-drop : (n place k : ℕ) (bytes : List ℕ) → number_at n place (drop k bytes) ≡ number_at n (k + place) bytes
unfolding number_at
number_at-drop zero place k bytes = refl
number_at-drop (suc n) place k bytes =
    let byte = get_or-drop k bytes place 0 in
    let next : k + suc place ≡ suc (k + place) = omega arith in
    let rest = number_at-drop n (suc place) k bytes in
    rw (byte, rest, next) refl

-- what `byteorder` reads at the front of the bytes from a place on
pub little_number-drop : (n place : ℕ) (bytes : List ℕ) → little_number n (drop place bytes) ≡ number_at n place bytes
unfolding number_at
little_number-drop n place bytes = number_at-drop n 0 place bytes ∙ ap (λ p. number_at n p bytes) (omega arith)

-- a number of n bytes is below 256 ^ n
pub number_at-lt : (n place : ℕ) (bytes : List ℕ) → AreBytes bytes → number_at n place bytes < 256 ^ n
unfolding number_at
number_at-lt n place bytes are = little_from-lt place n bytes are

-- a number that was written behind a front is read there
pub number_at-bytes : (n x : ℕ) (front rest : List ℕ) → x < 256 ^ n
    → number_at n (length front) (front ++ little_bytes n x ++ rest) ≡ x
unfolding number_at
number_at-bytes n x front rest fits =
    let behind = number_at-drop n 0 (length front) ((front ++ little_bytes n x) ++ rest) in
    let here : length front + 0 ≡ length front = omega arith in
    let left : drop (length front) (front ++ (little_bytes n x ++ rest)) ≡ little_bytes n x ++ rest =
    drop-append_seam front (little_bytes n x ++ rest) in
    let read = little_number-reads_back n x rest fits in
    sym (rw here at behind) ∙ rw (append_assoc, left) read

-- the list of clusters in two parts
pub stream-append : (f : ℕ → List ℕ) (front rest : List ℕ) → stream f (front ++ rest) ≡ stream f front ++ stream f rest
stream-append f [] rest = refl
stream-append f (k ∷ ks) rest =
    ap (λ s. f k ++ s) (stream-append f ks rest) ∙ sym (append_assoc (f k) (stream f ks) (stream f rest))

-- clusters that two functions give alike
abbrev pub SameAt : (ℕ → List ℕ) → (ℕ → List ℕ) → List ℕ → Type 0
SameAt f g [] = Unit {0}
SameAt f g (k ∷ ks) = (f k ≡ g k) × SameAt f g ks

-- functions that agree on the clusters give the same bytes
pub stream-same : (f g : ℕ → List ℕ) (ks : List ℕ) → SameAt f g ks → stream f ks ≡ stream g ks
stream-same f g [] same = refl
stream-same f g (k ∷ ks) same = let first = same.0 in let rest = stream-same f g ks same.1 in rw (first, rest) refl

-- a cluster that ends within a front is the front's
pub cluster_at-take : (image : List ℕ) (c k m : ℕ) → k * c + c ≤ m
    → cluster_at (take m image) c k ≡ cluster_at image c k
unfolding cluster_at
cluster_at-take image c k m within = take-drop-take (k * c) c m image within

-- a cluster within the image has c bytes
pub length-cluster_at : (image : List ℕ) (c k : ℕ) → k * c + c ≤ length image → length (cluster_at image c k) ≡ c
unfolding cluster_at
length-cluster_at image c k within = simp (length-take, length-drop) (omega arith)

-- a piece that is there lies wholly in the bytes
pub raw_of-some : (size r : ℕ) (bytes piece : List ℕ) → raw_of size bytes r ≡ Some piece
    → (r * size + size ≤ length bytes) × (take size (drop (r * size) bytes) ≡ piece)
unfolding raw_of
raw_of-some size r bytes piece is =
    let found = cond_some (nat_le (r * size + size) (length bytes)) (take size (drop (r * size) bytes)) piece is in
    (leb-true _ _ found.0, found.1)

-- what lies wholly in the bytes is a piece
pub raw_of-within : (size r : ℕ) (bytes : List ℕ) → r * size + size ≤ length bytes
    → raw_of size bytes r ≡ Some (take size (drop (r * size) bytes))
unfolding raw_of
raw_of-within size r bytes within = rw (le-leb (r * size + size) (length bytes) within) refl

-- a piece of a front is a piece of the whole
pub raw_of-append : (size r : ℕ) (front rest piece : List ℕ) → raw_of size front r ≡ Some piece
    → raw_of size (front ++ rest) r ≡ Some piece
raw_of-append size r front rest piece is =
    let found = raw_of-some size r front piece is in
    let same = take-drop-append (r * size) size front rest found.0 in
    raw_of-within size r (front ++ rest) (omega (arith, found.0, length-append front rest)) ∙ ap Some (same ∙ found.1)

-- a number of one byte is the byte
pub number_at-byte : (place : ℕ) (bytes : List ℕ) → number_at 1 place bytes ≡ slice_index bytes place
unfolding number_at
number_at-byte place bytes = omega arith

-- what `byteorder` reads at the front of a part of the bytes
pub little_number-part : (n place m : ℕ) (bytes : List ℕ) → n ≤ m
    → little_number n (take m (drop place bytes)) ≡ number_at n place bytes
unfolding number_at
little_number-part n place m bytes within =
    number_at-take n 0 m (drop place bytes) (omega arith) ∙ little_number-drop n place bytes
