-- Rows: some cells of a run, read at once.
use Rattle.std.proofs.Common.{◌≡◌, ◌≤◌, ◌<◌, ◌+◌, ◌-◌, ◌*◌, ◌/◌, ◌%◌, ◌^◌, ◌&&◌, ℕ, zero, suc, List, ◌∷◌, ◌++◌, length, take, drop, min, refl, sym, ap, ◌∙◌, subst, arith, slice_range, length-append, true, Option, Some, None}
use Rattle.std.specs.Prelude.{replicate, IfSome}
use Rattle.std.specs.Int.{div_ceil}
use Rattle.std.specs.Option.{option_map}
use Rattle.std.proofs.lemmas.Bool.{leb-true}
use Rattle.std.proofs.lemmas.Grind.{div_ceil_times}
use Rattle.std.proofs.lemmas.List.{drop-drop, length-drop, length-map, length-take, length-take-le, replicate-append-replicate, take-append-le, take_min}
use Rattle.std.proofs.Math.Nat.{div-mul-le_self, le-div_iff_mul-le, mul-le-mul_left}
use Rattle.std.proofs.Math.Seq.{take-add}
use Rattle.ntfs_base.specs.Bytes.{cluster_at}
use Rattle.ntfs_base.proofs.BytesLemmas.{take-take}
use Rattle.ntfs_runs.specs.Cells.{are_cells, map_cells}
use Rattle.ntfs_runs.specs.Clusters.{behind, row}
use Rattle.ntfs_runs.proofs.CellsLemmas.{are_cells-append, are_cells-some, length-row}
use Rattle.ntfs_stream.specs.Putting.{pieces, row_length, shown_cells}
use Rattle.ntfs_stream.proofs.BoolLemmas.{and-left, and-right}
use Rattle.ntfs_stream.proofs.StreamBytesLemmas.{hole-cell, length-cells, pieces-shown}
use Rattle.ntfs_volume.specs.StreamBytes.{cells_bytes}

-- ---- a run in two parts

behind-behind : (cell : Option ℕ) (k : ℕ) → behind (behind cell 1) k ≡ behind cell (suc k)
behind-behind None k = refl
behind-behind (Some l) k = let sum : (l + 1) + k ≡ l + suc k = omega arith in ap Some sum

behind-none : (cell : Option ℕ) → behind cell 0 ≡ cell
behind-none None = refl
behind-none (Some l) = let sum : l + 0 ≡ l = omega arith in ap Some sum

row-append : (k m : ℕ) (cell : Option ℕ) → row (k + m) cell ≡ row k cell ++ row m (behind cell k)
unfolding row
row-append zero m cell = let sum : zero + m ≡ m = omega arith in ap (λ j. row j cell) sum ∙ ap (row m) (sym (behind-none cell))
row-append (suc k) m cell = let sum : suc k + m ≡ suc (k + m) = omega arith in ap (λ j. row j cell) sum ∙ ap (λ cells. cell ∷ cells) (row-append k m (behind cell 1) ∙ ap (λ o. row k (behind cell 1) ++ row m o) (behind-behind cell k))

pub row-split : (n k : ℕ) (cell : Option ℕ) → k ≤ n → row n cell ≡ row k cell ++ row (n - k) (behind cell k)
row-split n k cell within = let sum : k + (n - k) ≡ n = omega arith in ap (λ m. row m cell) (sym sum) ∙ row-append k (n - k) cell

split-cells : (n length k : ℕ) (cell : Option ℕ) → k ≤ length → are_cells true n (row length cell) ≡ true → (are_cells true n (row k cell) && are_cells true n (row (length - k) (behind cell k))) ≡ true
split-cells n length k cell within are = sym (are_cells-append true n (row k cell) (row (length - k) (behind cell k))) ∙ sym (ap (are_cells true n) (row-split length k cell within)) ∙ are

pub row-first : (n length k : ℕ) (cell : Option ℕ) → k ≤ length → are_cells true n (row length cell) ≡ true → are_cells true n (row k cell) ≡ true
row-first n length k cell within are = and-left (are_cells true n (row k cell)) (are_cells true n (row (length - k) (behind cell k))) (split-cells n length k cell within are)

pub row-rest : (n length k : ℕ) (cell : Option ℕ) → k ≤ length → are_cells true n (row length cell) ≡ true → are_cells true n (row (length - k) (behind cell k)) ≡ true
row-rest n length k cell within are = and-right (are_cells true n (row k cell)) (are_cells true n (row (length - k) (behind cell k))) (split-cells n length k cell within are)

-- a row of clusters ends before the last one
pub row-below : (n l k : ℕ) → are_cells true n (row k (Some l)) ≡ true → 0 < k → l + k ≤ n
row-below n l k are some = let le = leb-true k (n - l) (sym (are_cells-some true n l k) ∙ are) in omega (arith, le)

-- the number behind some of its clusters is one of 64 bits
pub row-end : (n length k : ℕ) (cell : Option ℕ) → are_cells true n (row length cell) ≡ true → 0 < length → k ≤ length → n < 2 ^ 64 → IfSome cell (λ lcn. lcn + k < 2 ^ 64)
row-end n length k None are some within small = tt
row-end n length k (Some l) are some within small = let below = row-below n l length are some in omega (arith, below, within, small)

row-inside : (l k n c size : ℕ) → l + k ≤ n → n * c ≤ size → l * c + k * c ≤ size
row-inside l k n c size within held = let all : c * (l + k) ≤ c * n = mul-le-mul_left c within in omega (arith, all, held)

some-clusters : (v k c : ℕ) → 0 < min v (k * c) → 0 < k
some-clusters v zero c some = let none : 0 * c ≡ 0 = omega arith in absurd (omega (arith, none, some))
some-clusters v (suc k) c some = omega arith

-- a row with initialised bytes lies in an image that has all clusters
pub row-held : (n c size k l v from len : ℕ) (cell : Option ℕ) → cell ≡ Some l → are_cells true n (row k cell) ≡ true → n * c ≤ size → len ≡ k * c → from ≡ min v len → 0 < from → l * c + k * c ≤ size
row-held n c size k l v from len cell is are held long least some =
    let clusters = some-clusters v k c (omega (arith, long, least, some)) in
    row-inside l k n c size (row-below n l k (subst (λ (o : Option ℕ). are_cells true n (row k o) ≡ true) is are) clusters) held

-- ---- the bytes of a row

row-bytes : (image : List ℕ) (c n k : ℕ) → cells_bytes c (map_cells (cluster_at image c) (row n (Some k))) ≡ take (n * c) (drop (k * c) image)
unfolding cluster_at cells_bytes row
row-bytes image c zero k = let none : 0 * c ≡ 0 = omega arith in sym (ap (λ m. take m (drop (k * c) image)) none)
row-bytes image c (suc n) k =
    let next : k * c + c ≡ (k + 1) * c = omega arith in
    let more : suc n * c ≡ c + n * c = omega arith in
    ap (λ xs. take c (drop (k * c) image) ++ xs)
    (row-bytes image c n (k + 1) ∙ ap (λ p. take (n * c) (drop p image)) (sym next) ∙ ap (take (n * c)) (sym (drop-drop c (k * c) image)))
    ∙ sym (ap (λ m. take m (drop (k * c) image)) more ∙ take-add c (n * c) (drop (k * c) image))

hole-bytes : (f : ℕ → List ℕ) (c n : ℕ) → cells_bytes c (map_cells f (row n None)) ≡ replicate (n * c) 0
unfolding cells_bytes row
hole-bytes f c zero = let none : 0 * c ≡ 0 = omega arith in sym (ap (λ m. replicate m 0) none)
hole-bytes f c (suc n) =
    let more : c + n * c ≡ suc n * c = omega arith in
    ap (λ xs. replicate c 0 ++ xs) (hole-bytes f c n) ∙ replicate-append-replicate c (n * c) 0 ∙ ap (λ m. replicate m 0) more

shown-row : (f : ℕ → List ℕ) (c v k : ℕ) (cell : Option ℕ) (bytes : List ℕ) → cells_bytes c (map_cells f (row k cell)) ≡ bytes → shown_cells c v (map_cells f (row k cell)) ≡ take v bytes ++ replicate (k * c - v) 0
unfolding shown_cells
shown-row f c v k cell bytes is =
    ap (λ xs. take v xs ++ replicate (length (map_cells f (row k cell)) * c - v) 0) is
    ∙ ap (λ m. take v bytes ++ replicate (m * c - v) 0) (length-map (row k cell) (option_map f) ∙ length-row k cell)

-- a hole is zeros
pub shown-hole : (f : ℕ → List ℕ) (c v k : ℕ) → shown_cells c v (map_cells f (row k None)) ≡ replicate (k * c) 0
shown-hole f c v k = shown-row f c v k None (replicate (k * c) 0) (hole-bytes f c k) ∙ hole-cell (k * c) v

-- and so are clusters that aren't initialised
pub shown-empty : (f : ℕ → List ℕ) (c n v k : ℕ) (cell : Option ℕ) → ((i : ℕ) → i < n → length (f i) ≡ c) → are_cells true n (row k cell) ≡ true → min v (k * c) ≡ 0
    → shown_cells c v (map_cells f (row k cell)) ≡ replicate (k * c) 0
shown-empty f c n v k cell each are none =
    let bytes = cells_bytes c (map_cells f (row k cell)) in
    let long : length bytes ≡ k * c = length-cells f c n (row k cell) each are ∙ ap (λ m. m * c) (length-row k cell) in
    let all : k * c - v ≡ k * c = omega (arith, none) in
    shown-row f c v k cell bytes refl
    ∙ ap (λ xs. xs ++ replicate (k * c - v) 0) (sym (take_min v bytes) ∙ ap (λ m. take m bytes) (ap (min v) long ∙ none))
    ∙ ap (λ m. replicate m 0) all

-- clusters that were read up to an end, and then cleared from the initialised bytes' end on
pub shown-read : (image buffer into after : List ℕ) (c k l v from at end : ℕ) → l * c + k * c ≤ length image → length buffer ≡ k * c → from ≡ min v (length buffer) → at ≡ l * c → from ≤ end → end ≤ k * c
    → length into ≡ length (take end buffer) → into ≡ slice_range image at (at + length (take end buffer))
    → after ≡ take from (into ++ drop end buffer) ++ replicate (length (into ++ drop end buffer) - from) 0
    → after ≡ shown_cells c v (map_cells (cluster_at image c) (row k (Some l)))
shown-read image buffer into after c k l v from at end within long least place reach fits count read is =
    let behind = drop (l * c) image in
    let asked : length (take end buffer) ≡ end = length-take-le end buffer (omega (arith, fits, long)) in
    let part : at + length (take end buffer) - at ≡ end = omega (arith, asked) in
    let whole : length (take (k * c) behind) ≡ k * c = simp (length-take, length-drop) (omega (arith, within)) in
    let was_read : into ≡ take end behind = read ∙ ap (λ n. take n (drop at image)) part ∙ ap (λ p. take end (drop p image)) place in
    let front : take from (into ++ drop end buffer) ≡ take from behind =
    take-append-le from into (drop end buffer) (omega (arith, count, asked, reach)) ∙ ap (take from) was_read ∙ take-take from end behind reach in
    let shown : take v (take (k * c) behind) ≡ take from behind =
    sym (take_min v (take (k * c) behind)) ∙ ap (λ m. take m (take (k * c) behind)) (ap (min v) (whole ∙ sym long) ∙ sym least) ∙ take-take from (k * c) behind (omega (arith, least, long)) in
    let left : length (into ++ drop end buffer) - from ≡ k * c - v = omega (arith, length-append into (drop end buffer), length-drop end buffer, count, asked, least, long, fits) in
    is ∙ ap (λ xs. xs ++ replicate (length (into ++ drop end buffer) - from) 0) (front ∙ sym shown) ∙ ap (λ m. take v (take (k * c) behind) ++ replicate m 0) left
    ∙ sym (shown-row (cluster_at image c) c v k (Some l) (take (k * c) behind) (row-bytes image c k l))

-- a row that was read is put as far as bytes remain
pub row-put : (f : ℕ → List ℕ) (c n s v k m : ℕ) (cell : Option ℕ) (buffer : List ℕ) → ((i : ℕ) → i < n → length (f i) ≡ c) → are_cells true n (row k cell) ≡ true → buffer ≡ shown_cells c v (map_cells f (row k cell))
    → m ≡ min s (length buffer) → take m buffer ≡ pieces c s v (map_cells f (row k cell))
row-put f c n s v k m cell buffer each are is least =
    ap (λ j. take j buffer) least ∙ take_min s buffer ∙ ap (take s) is ∙ sym (pieces-shown f c n s v (row k cell) each are)

-- ---- how many clusters are read

-- whole clusters
pub multiple-within : (v c k end : ℕ) → v ≤ k * c → end % c ≡ 0 → end < v + c → 0 < c → end ≤ k * c
multiple-within v c k end within whole less some = grind arith

pub clusters-small : (n c : ℕ) → n ≤ 4294967296 → c ≤ 65536 → n * c ≤ 281474976710656
clusters-small n c few small = let all : c * n ≤ c * 4294967296 = mul-le-mul_left c few in omega (arith, all, small)

pub row-within : (c size room n k : ℕ) → k ≡ row_length c size room n → k ≤ n
unfolding row_length
row-within c size room n k is = omega (arith, is)

pub row-room : (c size room n k : ℕ) → k ≡ row_length c size room n → k * c ≤ room
unfolding row_length
row-room c size room n k is =
    let fits = div-mul-le_self room c in
    let few : k ≤ room / c = omega (arith, is) in
    let less : c * k ≤ c * (room / c) = mul-le-mul_left c few in
    omega (arith, fits, less)

some_count : (size d c : ℕ) → 0 < size → size ≤ d * c → 0 < d
some_count size zero c some within = let none : 0 * c ≡ 0 = omega arith in absurd (omega (arith, none, within, some))
some_count size (suc d) c some within = omega arith

pub row-some : (c size room n k : ℕ) → k ≡ row_length c size room n → 0 < n → 0 < size → c ≤ room → 0 < c → 0 < k
unfolding row_length
row-some c size room n k is cells some wide positive =
    let whole : 1 ≤ room / c = (le-div_iff_mul-le positive).1 (omega (arith, wide)) in
    let held = some_count size (div_ceil size c) c some (div_ceil_times size c positive).0 in
    omega (arith, is, whole, held, cells)
