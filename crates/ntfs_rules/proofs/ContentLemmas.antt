-- The bytes of a stream, cluster by cluster.
use Rattle.std.proofs.Common.{◌≡◌, ◌≤◌, ◌<◌, ◌+◌, ◌-◌, ◌*◌, ◌^◌, ◌&&◌, ℕ, zero, suc, List, [], ◌∷◌, ◌++◌, length, take, drop, min, refl, sym, ap, ◌∙◌, subst, arith, slice_range, length-append, Bool, true, false, Option, Some, None, Result, Ok, Err, nat_le, nat_lt, if◌then◌else◌}
use Rattle.std.specs.Prelude.{replicate, slice_get, IfOk, IfSome}
use Rattle.std.specs.Option.{option_map}
use Rattle.std.proofs.lemmas.Bool.{leb-true, ltb-true}
use Rattle.std.proofs.lemmas.List.{length-map, length-replicate, length-take, places, same_lists, take_at}
use Rattle.std.proofs.lemmas.Option.{slice_get_within}
use Rattle.std.proofs.Math.Seq.{drop-append-add, take-add}
use Rattle.ntfs_base.proofs.BytesLemmas.{take-take}
use Rattle.ntfs_base.specs.Bytes.{cluster_at, piece_at}
use Rattle.ntfs_runs.specs.Cells.{are_cells, is_cell, map_cells}
use Rattle.ntfs_stream.proofs.BoolLemmas.{and-left, and-right}
use Rattle.ntfs_stream.proofs.StreamBytesLemmas.{cluster-within, clusters-long, hole-cell, length-cells}
use Rattle.ntfs_boot.specs.declared.geometry.Geometry.{Geometry}
use Rattle.ntfs_stream.specs.StreamBytes.{bytes_of_stream, filled_stream}
use Rattle.ntfs_volume.specs.Streams.{IsReadable, Stream}
use Rattle.ntfs_stream.specs.Putting.{shown_cell, shown_cells}
use Rattle.ntfs_volume.specs.StreamBytes.{cell_bytes, cells_bytes, runs_bytes}

-- ---- one cell

-- a cluster that was read, with zeros behind its initialised bytes
pub cell-read : (content read after : List ℕ) (c cl n lcn valid count : ℕ) → cl ≡ c → lcn < n → n * c ≤ length content → count ≡ min valid cl
    → read ≡ slice_range content (lcn * cl) (lcn * cl + c) → length read ≡ c → after ≡ take count read ++ replicate (length read - count) 0
    → after ≡ shown_cell c valid (Some (cluster_at content c lcn))
unfolding cluster_at
cell-read content read after c cl n lcn valid count same below held least is long done =
    let within = cluster-within lcn n c (length content) below held in
    let size : lcn * c + c - lcn * c ≡ c = omega arith in
    let bytes : read ≡ take c (drop (lcn * c) content) =
    is ∙ ap (λ k. slice_range content (lcn * k) (lcn * k + c)) same ∙ ap (λ k. take k (drop (lcn * c) content)) size in
    let all : length (take c (drop (lcn * c) content)) ≡ c = ap length (sym bytes) ∙ long in
    done ∙ ap (λ k. take count read ++ replicate (k - count) 0) long ∙ ap (λ xs. take count xs ++ replicate (c - count) 0) bytes
    ∙ cut (take c (drop (lcn * c) content)) all
  where
    cut : (xs : List ℕ) → length xs ≡ c → take count xs ++ replicate (c - count) 0 ≡ take valid xs ++ replicate (c - valid) 0
    cut xs all = same_lists _ _ (grind (arith, places)) (λ k d h. grind (arith, places))

cleared : (into after : List ℕ) (c : ℕ) → length into ≡ c → after ≡ take 0 into ++ replicate (length into - 0) 0 → after ≡ replicate c 0
cleared into after c long is = let all : length into - 0 ≡ c = omega (arith, long) in is ∙ ap (λ n. replicate n 0) all

-- a hole
pub cell-hole : (f : ℕ → List ℕ) (into after : List ℕ) (c valid : ℕ) (cell : Option ℕ) → cell ≡ None → length into ≡ c → after ≡ take 0 into ++ replicate (length into - 0) 0
    → after ≡ shown_cell c valid (option_map f cell)
cell-hole f into after c valid cell none long is =
    cleared into after c long is ∙ sym (hole-cell c valid) ∙ ap (λ (o : Option ℕ). shown_cell c valid (option_map f o)) (sym none)

-- nothing of it is initialised
pub cell-empty : (f : ℕ → List ℕ) (into after : List ℕ) (c valid : ℕ) (cell : Option ℕ) → valid ≡ 0 → length into ≡ c → after ≡ take 0 into ++ replicate (length into - 0) 0
    → after ≡ shown_cell c valid (option_map f cell)
cell-empty f into after c valid cell none long is =
    let all : c - 0 ≡ c = omega arith in
    cleared into after c long is ∙ ap (λ n. replicate n 0) (sym all) ∙ ap (λ v. shown_cell c v (option_map f cell)) (sym none)

-- ---- the cell of a VCN

cell_long : (f : ℕ → List ℕ) (c n : ℕ) (cell : Option ℕ) (rest : Bool) → ((k : ℕ) → k < n → length (f k) ≡ c) → (is_cell true n cell && rest) ≡ true → length (cell_bytes c (option_map f cell)) ≡ c
cell_long f c n None rest long is = length-replicate c 0
cell_long f c n (Some k) rest long is = long k (ltb-true k n (and-left (nat_lt k n) rest is))

shown_long : (f : ℕ → List ℕ) (c n v : ℕ) (cell : Option ℕ) (rest : Bool) → ((k : ℕ) → k < n → length (f k) ≡ c) → (is_cell true n cell && rest) ≡ true → length (shown_cell c v (option_map f cell)) ≡ c
shown_long f c n v cell rest long is =
    let b = cell_bytes c (option_map f cell) in
    omega (arith, length-append (take v b) (replicate (c - v) 0), length-take v b, length-replicate {A = ℕ} (c - v) 0, cell_long f c n cell rest long is)

-- one cell, and those behind it
shown-split : (c v m : ℕ) (b rest : List ℕ) → length b ≡ c
    → take v (b ++ rest) ++ replicate (suc m * c - v) 0 ≡ (take v b ++ replicate (c - v) 0) ++ (take (v - c) rest ++ replicate (m * c - (v - c)) 0)
shown-split c v m b rest long = same_lists _ _ (grind (arith, places)) (λ k d h. grind (arith, places))

-- what cells show of one VCN is what its cell shows
pub cell-piece : (f : ℕ → List ℕ) (c n v k : ℕ) (cells : List (Option ℕ)) (cell : Option ℕ) → ((k : ℕ) → k < n → length (f k) ≡ c) → are_cells true n cells ≡ true → slice_get cells k ≡ Some cell
    → take c (drop (k * c) (shown_cells c v (map_cells f cells))) ≡ shown_cell c (v - k * c) (option_map f cell)
unfolding are_cells shown_cells cells_bytes
cell-piece f c n v k [] cell long are is = absurd (let past = slice_get_within {A = Option ℕ} [] k cell is in omega arith)
cell-piece f c n v zero (first ∷ cells) cell long are is =
    let same : first ≡ cell = cc in
    let b = cell_bytes c (option_map f first) in
    let rest = cells_bytes c (map_cells f cells) in
    let place : 0 * c ≡ 0 = omega arith in
    let valid : v ≡ v - 0 * c = omega arith in
    let count = shown_long f c n v first (are_cells true n cells) long are in
    ap (λ p. take c (drop p (shown_cells c v (option_map f first ∷ map_cells f cells)))) place
    ∙ ap (take c) (shown-split c v (length (map_cells f cells)) b rest (cell_long f c n first (are_cells true n cells) long are))
    ∙ ap (λ m. take m (shown_cell c v (option_map f first) ++ shown_cells c (v - c) (map_cells f cells))) (sym count)
    ∙ take_at (shown_cell c v (option_map f first)) (shown_cells c (v - c) (map_cells f cells)) (length (shown_cell c v (option_map f first))) refl
    ∙ ap (λ u. shown_cell c u (option_map f first)) valid
    ∙ ap (λ (x : Option ℕ). shown_cell c (v - 0 * c) (option_map f x)) same
cell-piece f c n v (suc k) (first ∷ cells) cell long are is =
    let b = cell_bytes c (option_map f first) in
    let rest = cells_bytes c (map_cells f cells) in
    let count = shown_long f c n v first (are_cells true n cells) long are in
    let place : suc k * c ≡ length (shown_cell c v (option_map f first)) + k * c = omega (arith, count) in
    let valid : v - c - k * c ≡ v - suc k * c = omega arith in
    ap (λ xs. take c (drop (suc k * c) xs)) (shown-split c v (length (map_cells f cells)) b rest (cell_long f c n first (are_cells true n cells) long are))
    ∙ ap (λ p. take c (drop p (shown_cell c v (option_map f first) ++ shown_cells c (v - c) (map_cells f cells)))) place
    ∙ ap (take c) (drop-append-add (shown_cell c v (option_map f first)) (shown_cells c (v - c) (map_cells f cells)) (k * c))
    ∙ cell-piece f c n (v - c) k cells cell long (and-right (is_cell true n first) (are_cells true n cells) are) is
    ∙ ap (λ u. shown_cell c u (option_map f cell)) valid

-- ---- all cells

-- the bytes of a stream are what its cells show, up to the size
pub runs-shown : (c s v : ℕ) (cells : List (Option (List ℕ))) → length (cells_bytes c cells) ≡ length cells * c → v ≤ s → s ≤ length cells * c
    → runs_bytes c s v cells ≡ take s (shown_cells c v cells)
unfolding runs_bytes shown_cells
runs-shown c s v cells long within room = same_lists _ _ (grind (arith, places)) (λ k d h. grind (arith, places))

-- a cluster that stands at a VCN is below the number of clusters
pub cell-below : (n : ℕ) (cells : List (Option ℕ)) (k : ℕ) (cell : Option ℕ) → are_cells true n cells ≡ true → slice_get cells k ≡ Some cell → IfSome cell (λ lcn. lcn < n)
unfolding are_cells
cell-below n [] k cell are is = absurd (let past = slice_get_within {A = Option ℕ} [] k cell is in omega arith)
cell-below n (first ∷ cells) zero cell are is =
    let same : first ≡ cell = cc in
    subst (λ (o : Option ℕ). IfSome o (λ lcn. lcn < n)) same (below first (and-left (is_cell true n first) (are_cells true n cells) are))
  where
    below : (o : Option ℕ) → is_cell true n o ≡ true → IfSome o (λ lcn. lcn < n)
    below None is = tt
    below (Some lcn) is = ltb-true lcn n is
cell-below n (first ∷ cells) (suc k) cell are is = cell-below n cells k cell (and-right (is_cell true n first) (are_cells true n cells) are) is

-- what is left of the initialised bytes at a VCN
pub left-is : (vcn c cl before valid left : ℕ) → cl ≡ c → before ≡ min (vcn * cl) (2 ^ 64 - 1) → left ≡ valid - before → valid < 2 ^ 64 → left ≡ valid - vcn * c
left-is vcn c cl before valid left same is less fits =
    let row : vcn * cl ≡ vcn * c = ap (λ k. vcn * k) same in
    omega (arith, row, is, less, fits)

-- the cell of a VCN was read
pub vcn-read : (content read : List ℕ) (c n valid vcn left : ℕ) (cells : List (Option ℕ)) (cell : Option ℕ) → n * c ≤ length content → are_cells true n cells ≡ true → slice_get cells vcn ≡ Some cell
    → left ≡ valid - vcn * c → read ≡ shown_cell c left (option_map (cluster_at content c) cell)
    → read ≡ piece_at (vcn * c) c (shown_cells c valid (map_cells (cluster_at content c) cells))
unfolding piece_at
vcn-read content read c n valid vcn left cells cell held are is same done =
    let f = cluster_at content c in
    done ∙ ap (λ v. shown_cell c v (option_map f cell)) same
    ∙ sym (cell-piece f c n valid vcn cells cell (clusters-long content c n held) are is)

-- ---- the bytes of a stream

pub ok-weaker : {A E : Type 0} (P Q : A → Type 0) (result : Result A E) → ((x : A) → P x → Q x) → IfOk result P → IfOk result Q
ok-weaker P Q (Ok x) weaker is = weaker x is
ok-weaker P Q (Err fault) weaker is = is

value-is : (resident : Bool) (value bytes other : List ℕ) → Some bytes ≡ (if resident then Some value else None) → bytes ≡ (if resident then value else other)
value-is true value bytes other is = cc
value-is false value bytes other is = absurd cc

pub front-value : (g : Geometry) (image : List ℕ) (s : Stream ℕ) (bytes : List ℕ) → Some bytes ≡ (if s.is_resident then Some s.value else None) → bytes ≡ bytes_of_stream g.cluster (filled_stream g image s)
unfolding bytes_of_stream
front-value g image s bytes is = value-is s.is_resident s.value bytes _ is

runs-are : (resident : Bool) (given cells : List (Option ℕ)) → Some cells ≡ (if resident then None else Some given) → (resident ≡ false) × (cells ≡ given)
runs-are true given cells is = absurd cc
runs-are false given cells is = (refl, cc)

pub shown-stream : (g : Geometry) (image : List ℕ) (s : Stream ℕ) (cells : List (Option ℕ)) → Some cells ≡ (if s.is_resident then None else Some s.cells) → IsReadable g s → g.clusters * g.cluster ≤ length image
    → bytes_of_stream g.cluster (filled_stream g image s) ≡ take s.size (shown_cells g.cluster s.valid (map_cells (cluster_at image g.cluster) cells))
unfolding bytes_of_stream
shown-stream g image s cells is readable held =
    let f = cluster_at image g.cluster in
    let runs = runs-are s.is_resident s.cells cells is in
    let room = readable.room runs.0 in
    let count : length (map_cells f s.cells) ≡ length s.cells = length-map s.cells (option_map f) in
    let long : length (cells_bytes g.cluster (map_cells f s.cells)) ≡ length (map_cells f s.cells) * g.cluster =
    length-cells f g.cluster g.clusters s.cells (clusters-long image g.cluster g.clusters held) readable.cells ∙ ap (λ n. n * g.cluster) (sym count) in
    let size = leb-true s.size (length s.cells * g.cluster) (and-left (nat_le s.size (length s.cells * g.cluster)) (nat_le s.valid s.size) room) in
    let valid = leb-true s.valid s.size (and-right (nat_le s.size (length s.cells * g.cluster)) (nat_le s.valid s.size) room) in
    rw runs.0 (runs-shown g.cluster s.size s.valid (map_cells f s.cells) long valid (subst (λ (n : ℕ). s.size ≤ n * g.cluster) (sym count) size))
    ∙ ap (λ (xs : List (Option ℕ)). take s.size (shown_cells g.cluster s.valid (map_cells f xs))) (sym runs.1)

pub front-runs : (g : Geometry) (image : List ℕ) (s : Stream ℕ) (cells : List (Option ℕ)) (most count size valid : ℕ) → size ≡ s.size → valid ≡ s.valid → count ≡ min most size
    → Some cells ≡ (if s.is_resident then None else Some s.cells) → IsReadable g s → g.clusters * g.cluster ≤ length image
    → take count (shown_cells g.cluster valid (map_cells (cluster_at image g.cluster) cells)) ≡ take most (bytes_of_stream g.cluster (filled_stream g image s))
front-runs g image s cells most count size valid size_is valid_is least is readable held =
    let all = shown_cells g.cluster s.valid (map_cells (cluster_at image g.cluster) cells) in
    ap (λ v. take count (shown_cells g.cluster v (map_cells (cluster_at image g.cluster) cells))) valid_is
    ∙ ap (λ k. take k all) (least ∙ ap (min most) size_is)
    ∙ twice most s.size all
    ∙ ap (take most) (sym (shown-stream g image s cells is readable held))
  where
    twice : (a b : ℕ) (xs : List ℕ) → take (min a b) xs ≡ take a (take b xs)
    twice a b xs = same_lists _ _ (grind (arith, places)) (λ k d h. grind (arith, places))

-- ---- buffers and fronts

-- the part of a buffer that was written is all of it
pub whole-buffer : (into rest : List ℕ) (n : ℕ) → length into ≡ n → take n (into ++ rest) ≡ into
whole-buffer into rest n long = take_at into rest n long

-- ---- the front of a stream, one cluster more

pub front-more : (all old new piece : List ℕ) (vcn c cl count most : ℕ) → cl ≡ c → vcn * cl < most → count ≡ min (most - vcn * cl) cl → old ≡ take (min (vcn * c) most) all → piece ≡ piece_at (vcn * c) c all
    → new ≡ old ++ take count piece → new ≡ take (min ((vcn + 1) * c) most) all
unfolding piece_at
front-more all old new piece vcn c cl count most same below least front is added =
    let row : vcn * cl ≡ vcn * c = ap (λ x. vcn * x) same in
    let next : (vcn + 1) * c ≡ vcn * c + c = omega arith in
    let before : min (vcn * c) most ≡ vcn * c = omega (arith, row, below) in
    let after : min ((vcn + 1) * c) most ≡ vcn * c + count = omega (arith, row, below, next, least, same) in
    added
    ∙ ap (λ xs. xs ++ take count piece) (front ∙ ap (λ k. take k all) before)
    ∙ ap (λ xs. take (vcn * c) all ++ xs) (ap (take count) is ∙ take-take count c (drop (vcn * c) all) (omega (arith, least, same)))
    ∙ sym (take-add (vcn * c) count all)
    ∙ ap (λ k. take k all) (sym after)

pub count-next : (vcn c cl most : ℕ) → cl ≡ c → vcn * cl < most → (vcn + 1) * c < most + c
count-next vcn c cl most same below =
    let next : (vcn + 1) * c ≡ vcn * c + c = omega arith in
    let row : vcn * cl ≡ vcn * c = ap (λ x. vcn * x) same in
    omega (arith, next, row, below)
