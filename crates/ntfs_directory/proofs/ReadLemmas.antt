-- Bytes of a stream's runs from any place on.
use Rattle.std.proofs.Common.{◌≡◌, ◌≤◌, ◌<◌, ◌+◌, ◌-◌, ◌*◌, ◌/◌, ◌%◌, ◌&&◌, ℕ, zero, suc, List, [], ◌∷◌, ◌++◌, length, take, drop, min, refl, sym, ap, ◌∙◌, subst, arith, slice_range, append_assoc, length-append, Bool, true, Option, Some, None, nat_le, nat_lt}
use Rattle.std.specs.Prelude.{replicate, slice_get}
use Rattle.std.specs.Option.{option_map}
use Rattle.std.proofs.lemmas.Bool.{leb-true, ltb-true}
use Rattle.std.proofs.lemmas.List.{length-replicate, length-take, length-take-le, length-drop, take_all, take_at, drop-drop, drop-replicate, take-replicate, replicate-append-replicate, take-append-le, drop-append-le, places, same_lists}
use Rattle.std.proofs.lemmas.Option.{slice_get_within}
use Rattle.std.proofs.Math.Nat.{div-lt_iff_lt-mul, div-add-mod}
use Rattle.std.proofs.Math.Seq.{take-add, drop-append-add}
use borrow.Rule.Slice.PartMut.{put_mid}
use Rattle.ntfs_base.specs.Bytes.{cluster_at, overwrite, piece_at}
use Rattle.ntfs_base.proofs.BytesLemmas.{take-drop-take}
use Rattle.ntfs_base.proofs.OverwriteLemmas.{put_mid-overwrite}
use Rattle.ntfs_runs.specs.Cells.{are_cells, is_cell, map_cells}
use Rattle.ntfs_stream.proofs.BoolLemmas.{and-left, and-right}
use Rattle.ntfs_stream.proofs.StreamBytesLemmas.{clusters-long, cluster-within, length-cells}
use Rattle.ntfs_volume.specs.StreamBytes.{cell_bytes, cells_bytes, have_room, runs_bytes}

-- ---- cells

-- a cluster that stands at a VCN is below the number of clusters
pub cell-below : (n : ℕ) (cells : List (Option ℕ)) (k lcn : ℕ) → are_cells true n cells ≡ true → slice_get cells k ≡ Some (Some lcn) → lcn < n
unfolding are_cells
cell-below n [] k lcn are is = absurd (let past = slice_get_within {A = Option ℕ} [] k (Some lcn) is in omega arith)
cell-below n (cell ∷ cells) zero lcn are is =
    let same : cell ≡ Some lcn = cc in
    ltb-true lcn n (and-left (nat_lt lcn n) (are_cells true n cells) (subst (λ (o : Option ℕ). (is_cell true n o && are_cells true n cells) ≡ true) same are))
cell-below n (cell ∷ cells) (suc k) lcn are is = cell-below n cells k lcn (and-right (is_cell true n cell) (are_cells true n cells) are) is

cell_long : (f : ℕ → List ℕ) (c n : ℕ) (cell : Option ℕ) (rest : Bool) → ((k : ℕ) → k < n → length (f k) ≡ c) → (is_cell true n cell && rest) ≡ true → length (cell_bytes c (option_map f cell)) ≡ c
cell_long f c n None rest long is = length-replicate c 0
cell_long f c n (Some k) rest long is = long k (ltb-true k n (and-left (nat_lt k n) rest is))

-- bytes within one cell are its own
cell-piece : (f : ℕ → List ℕ) (c n : ℕ) (cells : List (Option ℕ)) (k o m : ℕ) (cell : Option ℕ) → ((k : ℕ) → k < n → length (f k) ≡ c) → are_cells true n cells ≡ true → slice_get cells k ≡ Some cell → o + m ≤ c
    → take m (drop (k * c + o) (cells_bytes c (map_cells f cells))) ≡ take m (drop o (cell_bytes c (option_map f cell)))
unfolding are_cells cells_bytes
cell-piece f c n [] k o m cell long are is within = absurd (let past = slice_get_within {A = Option ℕ} [] k cell is in omega arith)
cell-piece f c n (first ∷ cells) zero o m cell long are is within =
    let same : first ≡ cell = cc in
    let b = cell_bytes c (option_map f first) in
    let rest = cells_bytes c (map_cells f cells) in
    let count = cell_long f c n first (are_cells true n cells) long are in
    let place : zero * c + o ≡ o = omega arith in
    ap (λ p. take m (drop p (b ++ rest))) place
    ∙ ap (take m) (drop-append-le o b rest (omega (arith, count)))
    ∙ take-append-le m (drop o b) rest (omega (arith, length-drop o b, count))
    ∙ ap (λ (x : Option ℕ). take m (drop o (cell_bytes c (option_map f x)))) same
cell-piece f c n (first ∷ cells) (suc k) o m cell long are is within =
    let b = cell_bytes c (option_map f first) in
    let rest = cells_bytes c (map_cells f cells) in
    let count = cell_long f c n first (are_cells true n cells) long are in
    let place : suc k * c + o ≡ length b + (k * c + o) = omega (arith, count) in
    ap (λ p. take m (drop p (b ++ rest))) place
    ∙ ap (take m) (drop-append-add b rest (k * c + o))
    ∙ cell-piece f c n cells k o m cell long (and-right (is_cell true n first) (are_cells true n cells) are) is within

-- ---- the initialised part

-- bytes of which the initialised ones are followed by zeros
shown-piece : (bytes : List ℕ) (s v at m q : ℕ) → v ≤ s → s ≤ length bytes → at + m ≤ s → q ≡ min (v - at) m
    → take m (drop at (take v bytes ++ replicate (s - v) 0)) ≡ take q (take m (drop at bytes)) ++ replicate (m - q) 0
shown-piece bytes s v at m q valid room within least = same_lists _ _ (grind (arith, places)) (λ k d h. grind (arith, places))

-- ---- bytes within one cluster, as they were read

pub read-end : (lcn n c cl at m size : ℕ) → cl ≡ c → lcn < n → n * c ≤ size → at % c + m ≤ c → lcn * cl + at % cl + m ≤ size
read-end lcn n c cl at m size same below held one =
    subst (λ (x : ℕ). lcn * x + at % x + m ≤ size) (sym same) (let inside = cluster-within lcn n c size below held in omega (arith, inside, one))

cluster-piece : (content : List ℕ) (c lcn o m : ℕ) → o + m ≤ c → take m (drop o (cluster_at content c lcn)) ≡ take m (drop (lcn * c + o) content)
unfolding cluster_at
cluster-piece content c lcn o m within = take-drop-take o m c (drop (lcn * c) content) within ∙ ap (take m) (drop-drop o (lcn * c) content)

-- the cell of a place, and the place in it
cell-at : (f : ℕ → List ℕ) (c n at m : ℕ) (cells : List (Option ℕ)) (cell : Option ℕ) → ((k : ℕ) → k < n → length (f k) ≡ c) → are_cells true n cells ≡ true → slice_get cells (at / c) ≡ Some cell → at % c + m ≤ c
    → take m (drop at (cells_bytes c (map_cells f cells))) ≡ take m (drop (at % c) (cell_bytes c (option_map f cell)))
cell-at f c n at m cells cell long are is one =
    let place : at ≡ at / c * c + at % c = omega (arith, div-add-mod at c) in
    ap (λ p. take m (drop p (cells_bytes c (map_cells f cells)))) place ∙ cell-piece f c n cells (at / c) (at % c) m cell long are is one

shown : (content : List ℕ) (c n s v at m q : ℕ) (cells : List (Option ℕ)) → n * c ≤ length content → are_cells true n cells ≡ true → have_room c (length cells) s v ≡ true → at + m ≤ s → q ≡ min (v - at) m
    → piece_at at m (runs_bytes c s v (map_cells (cluster_at content c) cells)) ≡ take q (take m (drop at (cells_bytes c (map_cells (cluster_at content c) cells)))) ++ replicate (m - q) 0
unfolding piece_at runs_bytes
shown content c n s v at m q cells held are room within least =
    let f = cluster_at content c in
    let long = length-cells f c n cells (clusters-long content c n held) are in
    let valid = leb-true v s (and-right (nat_le s (length cells * c)) (nat_le v s) room) in
    let enough = leb-true s (length cells * c) (and-left (nat_le s (length cells * c)) (nat_le v s) room) in
    shown-piece (cells_bytes c (map_cells f cells)) s v at m q valid (omega (arith, enough, long)) within least

piece-at-c : (content read after : List ℕ) (c n s v at m q lcn : ℕ) (cells : List (Option ℕ)) → n * c ≤ length content → are_cells true n cells ≡ true → have_room c (length cells) s v ≡ true
    → at + m ≤ s → at % c + m ≤ c → q ≡ min (v - at) m → slice_get cells (at / c) ≡ Some (Some lcn)
    → read ≡ slice_range content (lcn * c + at % c) (lcn * c + at % c + m) → length read ≡ m → after ≡ take q read ++ replicate (length read - q) 0
    → after ≡ piece_at at m (runs_bytes c s v (map_cells (cluster_at content c) cells))
piece-at-c content read after c n s v at m q lcn cells held are room within one least cell is count done =
    let f = cluster_at content c in
    let from = lcn * c + at % c in
    let size : from + m - from ≡ m = omega arith in
    let raw : read ≡ take m (drop at (cells_bytes c (map_cells f cells))) =
    is ∙ ap (λ k. take k (drop from content)) size ∙ sym (cluster-piece content c lcn (at % c) m one)
    ∙ sym (cell-at f c n at m cells (Some lcn) (clusters-long content c n held) are cell one) in
    done ∙ ap (λ k. take q read ++ replicate (k - q) 0) count ∙ ap (λ xs. take q xs ++ replicate (m - q) 0) raw
    ∙ sym (shown content c n s v at m q cells held are room within least)

-- a piece of a cluster, with zeros behind its initialised bytes
pub piece-read : (content read after : List ℕ) (c cl n s v at m q lcn : ℕ) (cells : List (Option ℕ)) → cl ≡ c → n * c ≤ length content → are_cells true n cells ≡ true → have_room c (length cells) s v ≡ true
    → at + m ≤ s → at % c + m ≤ c → q ≡ min (v - at) m → slice_get cells (at / cl) ≡ Some (Some lcn)
    → read ≡ slice_range content (lcn * cl + at % cl) (lcn * cl + at % cl + m) → length read ≡ m → after ≡ take q read ++ replicate (length read - q) 0
    → after ≡ piece_at at m (runs_bytes c s v (map_cells (cluster_at content c) cells))
piece-read content read after c cl n s v at m q lcn cells same held are room within one least cell is count done =
    piece-at-c content read after c n s v at m q lcn cells held are room within one least
    (subst (λ (x : ℕ). slice_get cells (at / x) ≡ Some (Some lcn)) same cell)
    (subst (λ (x : ℕ). read ≡ slice_range content (lcn * x + at % x) (lcn * x + at % x + m)) same is) count done

cleared : (into after : List ℕ) (m : ℕ) → length into ≡ m → after ≡ take 0 into ++ replicate (length into - 0) 0 → after ≡ replicate m 0
cleared into after m long is = let all : length into - 0 ≡ m = omega (arith, long) in is ∙ ap (λ n. replicate n 0) all

-- nothing of the piece is initialised
pub piece-empty : (content into after : List ℕ) (c n s v at m q : ℕ) (cells : List (Option ℕ)) → n * c ≤ length content → are_cells true n cells ≡ true → have_room c (length cells) s v ≡ true
    → at + m ≤ s → q ≡ min (v - at) m → q ≡ 0 → length into ≡ m → after ≡ take 0 into ++ replicate (length into - 0) 0
    → after ≡ piece_at at m (runs_bytes c s v (map_cells (cluster_at content c) cells))
piece-empty content into after c n s v at m q cells held are room within least none long done =
    let xs = take m (drop at (cells_bytes c (map_cells (cluster_at content c) cells))) in
    let all : m - 0 ≡ m = omega arith in
    let empty : take 0 xs ++ replicate (m - 0) 0 ≡ replicate m 0 = ap (λ k. replicate k 0) all in
    cleared into after m long done ∙ sym empty
    ∙ ap (λ k. take k xs ++ replicate (m - k) 0) (sym none)
    ∙ sym (shown content c n s v at m q cells held are room within least)

zeros-both : (m q : ℕ) → q ≤ m → take q (replicate m 0) ++ replicate (m - q) 0 ≡ replicate {A = ℕ} m 0
zeros-both m q within =
    let sum : q + (m - q) ≡ m = omega arith in
    ap (λ xs. xs ++ replicate (m - q) 0) (take-replicate q m 0 within) ∙ replicate-append-replicate q (m - q) 0 ∙ ap (λ k. replicate k 0) sum

-- the piece lies in a hole
pub piece-hole : (content into after : List ℕ) (c cl n s v at m q : ℕ) (cells : List (Option ℕ)) → cl ≡ c → n * c ≤ length content → are_cells true n cells ≡ true → have_room c (length cells) s v ≡ true
    → at + m ≤ s → at % c + m ≤ c → q ≡ min (v - at) m → slice_get cells (at / cl) ≡ Some None → length into ≡ m → after ≡ take 0 into ++ replicate (length into - 0) 0
    → after ≡ piece_at at m (runs_bytes c s v (map_cells (cluster_at content c) cells))
piece-hole content into after c cl n s v at m q cells same held are room within one least cell long done =
    let f = cluster_at content c in
    let hole : take m (drop at (cells_bytes c (map_cells f cells))) ≡ replicate m 0 =
    cell-at f c n at m cells None (clusters-long content c n held) are (subst (λ (x : ℕ). slice_get cells (at / x) ≡ Some None) same cell) one
    ∙ ap (take m) (drop-replicate (at % c) c 0) ∙ take-replicate m (c - at % c) 0 (omega (arith, one)) in
    cleared into after m long done ∙ sym (zeros-both m q (omega (arith, least)))
    ∙ ap (λ xs. take q xs ++ replicate (m - q) 0) (sym hole)
    ∙ sym (shown content c n s v at m q cells held are room within least)

-- ---- a piece more

-- the cell of a place in the stream is there
pub cell-there : (c cl n s v at m : ℕ) → cl ≡ c → 0 < c → have_room c n s v ≡ true → 0 < m → at + m ≤ s → at / cl < n
cell-there c cl n s v at m same some room more within =
    let enough = leb-true s (n * c) (and-left (nat_le s (n * c)) (nat_le v s) room) in
    subst (λ (x : ℕ). at / x < n) (sym same) ((div-lt_iff_lt-mul some).1 (omega (arith, enough, more, within)))

put_is : (block part : List ℕ) (at count : ℕ) → at + count ≤ length block → length part ≡ count → put_mid at (at + count - at) block part ≡ take at block ++ (part ++ drop (at + count) block)
unfolding overwrite
put_is block part at count within long =
    let whole = put_mid-overwrite at block part part (omega arith) refl in
    ap (λ n. put_mid at (at + n - at) block part) (sym long) ∙ whole ∙ ap (λ n. take at block ++ (part ++ drop (at + n) block)) long

pub length-put : (block part : List ℕ) (at count : ℕ) → at + count ≤ length block → length part ≡ count → length (put_mid at (at + count - at) block part) ≡ length block
length-put block part at count within long =
    ap length (put_is block part at count within long)
    ∙ omega (arith, length-append (take at block) (part ++ drop (at + count) block), length-append part (drop (at + count) block), length-take-le at block (omega arith), length-drop (at + count) block)

pub length-part : (block : List ℕ) (at count : ℕ) → at + count ≤ length block → length (take (at + count - at) (drop at block)) ≡ count
length-part block at count within = simp (length-take, length-drop) (omega arith)

front-put : (block part : List ℕ) (at count : ℕ) → at + count ≤ length block → length part ≡ count → take (at + count) (put_mid at (at + count - at) block part) ≡ take at block ++ part
front-put block part at count within long =
    let front : length (take at block ++ part) ≡ at + count = omega (arith, length-append (take at block) part, length-take-le at block (omega arith)) in
    ap (take (at + count)) (put_is block part at count within long ∙ sym (append_assoc (take at block) part (drop (at + count) block)))
    ∙ take_at (take at block ++ part) (drop (at + count) block) (at + count) front

pub piece-more : (block part bytes : List ℕ) (place done count asked : ℕ) → done + count ≤ length block → length part ≡ count → asked ≡ count → take done block ≡ take done (drop place bytes)
    → part ≡ piece_at (place + done) asked bytes → take (done + count) (put_mid done (done + count - done) block part) ≡ take (done + count) (drop place bytes)
unfolding piece_at
piece-more block part bytes place done count asked within long same before is =
    front-put block part done count within long
    ∙ ap (λ xs. xs ++ part) before
    ∙ ap (λ xs. take done (drop place bytes) ++ xs) (is ∙ ap (λ n. take n (drop (place + done) bytes)) same ∙ ap (take count) (sym (drop-drop done place bytes)))
    ∙ sym (take-add done count (drop place bytes))

pub piece-whole : (block bytes : List ℕ) (place done m : ℕ) → length block ≡ m → length block ≤ done → done ≤ length block → take done block ≡ take done (drop place bytes) → block ≡ piece_at place m bytes
unfolding piece_at
piece-whole block bytes place done m long all within is =
    let whole : done ≡ m = omega arith in
    sym (take_all done block all) ∙ is ∙ ap (λ n. take n (drop place bytes)) whole
