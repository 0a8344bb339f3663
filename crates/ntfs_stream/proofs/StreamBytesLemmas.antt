-- The bytes of a stream, cell by cell.
use Rattle.std.proofs.Common.{◌≡◌, ◌≤◌, ◌<◌, ◌+◌, ◌-◌, ◌*◌, ◌&&◌, ℕ, suc, List, [], ◌∷◌, ◌++◌, length, take, min, refl, sym, ap, ◌∙◌, arith, length-append, Bool, true, false, Option, Some, None, nat_le, nat_lt, Ok, Err, if◌then◌else◌}
use Rattle.std.specs.Prelude.{replicate}
use Rattle.std.specs.Option.{option_map}
use Rattle.std.proofs.lemmas.List.{length-replicate, length-map, length-take, places, same_lists}
use Rattle.ntfs_base.specs.Bytes.{cluster_at}
use Rattle.std.proofs.lemmas.Bool.{leb-true, ltb-true}
use Rattle.ntfs_runs.specs.Cells.{are_cells, is_cell, map_cells}
use Rattle.ntfs_boot.specs.declared.geometry.Geometry.{Geometry}
use Rattle.ntfs_stream.specs.Putting.{pieces, shown_cell, shown_cells}
use Rattle.ntfs_volume.specs.Streams.{IsReadable, Stream}
use Rattle.ntfs_base.proofs.BytesLemmas.{length-cluster_at}
use Rattle.ntfs_stream.proofs.BoolLemmas.{and-left, and-right}
use Rattle.ntfs_volume.specs.StreamBytes.{cell_bytes, cells_bytes, have_room, runs_bytes}
use Rattle.ntfs_stream.specs.declared.fault.StreamFault.TheVariants.{NotPlain}
use Rattle.ntfs_stream.specs.StreamBytes.{bytes_of_stream, filled_stream, is_plain, stream_outcome}

-- a hole is zeros
pub hole-cell : (c v : ℕ) → shown_cell c v None ≡ replicate c 0
hole-cell c v = same_lists _ _ (grind (arith, places)) (λ k d h. grind (arith, places))

cluster_end : (k n c : ℕ) → k < n → k * c + c ≤ n * c
cluster_end k n c lt = grind arith

pub cluster-within : (k n c size : ℕ) → k < n → n * c ≤ size → k * c + c ≤ size
cluster-within k n c size lt held = let end = cluster_end k n c lt in omega (arith, end, held)

-- each cluster below the end has its bytes
pub clusters-long : (content : List ℕ) (c n : ℕ) → n * c ≤ length content → (k : ℕ) → k < n → length (cluster_at content c k) ≡ c
clusters-long content c n held k below = length-cluster_at content c k (cluster-within k n c (length content) below held)

-- ---- cells in a row

cell_long : (f : ℕ → List ℕ) (c n : ℕ) (cell : Option ℕ) (rest : Bool) → ((k : ℕ) → k < n → length (f k) ≡ c) → (is_cell true n cell && rest) ≡ true → length (cell_bytes c (option_map f cell)) ≡ c
cell_long f c n None rest long is = length-replicate c 0
cell_long f c n (Some k) rest long is = long k (ltb-true k n (and-left (nat_lt k n) rest is))

pub length-cells : (f : ℕ → List ℕ) (c n : ℕ) (cells : List (Option ℕ)) → ((k : ℕ) → k < n → length (f k) ≡ c) → are_cells true n cells ≡ true → length (cells_bytes c (map_cells f cells)) ≡ length cells * c
unfolding are_cells cells_bytes
length-cells f c n [] long are = omega arith
length-cells f c n (cell ∷ cells) long are =
    omega (arith, length-append (cell_bytes c (option_map f cell)) (cells_bytes c (map_cells f cells)), cell_long f c n cell (are_cells true n cells) long are, length-cells f c n cells long (and-right (is_cell true n cell) (are_cells true n cells) are))

-- one cell and those behind it
shown-split : (c v m : ℕ) (b rest : List ℕ) → length b ≡ c
    → take v (b ++ rest) ++ replicate (suc m * c - v) 0 ≡ (take v b ++ replicate (c - v) 0) ++ (take (v - c) rest ++ replicate (m * c - (v - c)) 0)
shown-split c v m b rest long = same_lists _ _ (grind (arith, places)) (λ k d h. grind (arith, places))

-- bytes of two lists in a row
take-both : (s c : ℕ) (xs ys : List ℕ) → length xs ≡ c → take (min s c) xs ++ take (s - c) ys ≡ take s (xs ++ ys)
take-both s c xs ys long = same_lists _ _ (grind (arith, places)) (λ k d h. grind (arith, places))

length-shown : (c v : ℕ) (b : List ℕ) → length b ≡ c → length (take v b ++ replicate (c - v) 0) ≡ c
length-shown c v b long = omega (arith, length-append (take v b) (replicate (c - v) 0), length-take v b, length-replicate {A = ℕ} (c - v) 0, long)

no_pieces : (s c v : ℕ) → ◌≡◌ {A = List ℕ} [] (take s (take v [] ++ replicate (0 * c - v) 0))
no_pieces s c v = same_lists _ _ (grind (arith, places)) (λ k d h. grind (arith, places))

-- the pieces of cells are what they show, up to the size
pub pieces-shown : (f : ℕ → List ℕ) (c n s v : ℕ) (cells : List (Option ℕ)) → ((k : ℕ) → k < n → length (f k) ≡ c) → are_cells true n cells ≡ true
    → pieces c s v (map_cells f cells) ≡ take s (shown_cells c v (map_cells f cells))
unfolding pieces shown_cells cells_bytes are_cells
pieces-shown f c n s v [] long are = no_pieces s c v
pieces-shown f c n s v (cell ∷ cells) long are =
    let b = cell_bytes c (option_map f cell) in
    let rest = cells_bytes c (map_cells f cells) in
    let each = cell_long f c n cell (are_cells true n cells) long are in
    ap (λ bytes. take (min s c) (shown_cell c v (option_map f cell)) ++ bytes)
    (pieces-shown f c n (s - c) (v - c) cells long (and-right (is_cell true n cell) (are_cells true n cells) are))
    ∙ take-both s c (shown_cell c v (option_map f cell)) (shown_cells c (v - c) (map_cells f cells)) (length-shown c v b each)
    ∙ ap (take s) (sym (shown-split c v (length (map_cells f cells)) b rest each))

cut-shown : (s v m : ℕ) (bytes : List ℕ) → length bytes ≡ m → v ≤ s → s ≤ m → take s (take v bytes ++ replicate (m - v) 0) ≡ take v bytes ++ replicate (s - v) 0
cut-shown s v m bytes long within room = same_lists _ _ (grind (arith, places)) (λ k d h. grind (arith, places))

runs-whole : (f : ℕ → List ℕ) (c n s v : ℕ) (cells : List (Option ℕ)) → ((k : ℕ) → k < n → length (f k) ≡ c) → are_cells true n cells ≡ true → have_room c (length cells) s v ≡ true
    → pieces c s v (map_cells f cells) ≡ runs_bytes c s v (map_cells f cells)
unfolding runs_bytes shown_cells
runs-whole f c n s v cells long are room =
    let bytes = cells_bytes c (map_cells f cells) in
    let count : length (map_cells f cells) ≡ length cells = length-map cells (option_map f) in
    pieces-shown f c n s v cells long are
    ∙ ap (λ m. take s (take v bytes ++ replicate (m * c - v) 0)) count
    ∙ cut-shown s v (length cells * c) bytes (length-cells f c n cells long are) (leb-true v s (and-right (nat_le s (length cells * c)) (nat_le v s) room)) (leb-true s (length cells * c) (and-left (nat_le s (length cells * c)) (nat_le v s) room))

-- ---- the bytes of a gathered stream

-- a stream that isn't plain
pub plain-refused : (g : Geometry) (content : List ℕ) (s : Stream ℕ) → is_plain s.flags ≡ false → stream_outcome g content s ≡ Err (NotPlain s.flags)
unfolding stream_outcome
plain-refused g content s is = rw is refl

plain-given : (g : Geometry) (content : List ℕ) (s : Stream ℕ) → is_plain s.flags ≡ true → stream_outcome g content s ≡ Ok (bytes_of_stream g.cluster (filled_stream g content s))
unfolding stream_outcome
plain-given g content s is = rw is refl

value_of : (resident : Bool) (value bytes : List ℕ) → Some bytes ≡ (if resident then Some value else None) → (resident ≡ true) × (value ≡ bytes)
value_of true value bytes is = (refl, cc)
value_of false value bytes is = absurd cc

runs_of : (resident : Bool) (given cells : List (Option ℕ)) → Some cells ≡ (if resident then None else Some given) → (resident ≡ false) × (given ≡ cells)
runs_of true given cells is = absurd cc
runs_of false given cells is = (refl, cc)

pub value-outcome : (g : Geometry) (content bytes : List ℕ) (s : Stream ℕ) → is_plain s.flags ≡ true → Some bytes ≡ (if s.is_resident then Some s.value else None) → stream_outcome g content s ≡ Ok bytes
unfolding bytes_of_stream
value-outcome g content bytes s plain is =
    let value = value_of s.is_resident s.value bytes is in
    plain-given g content s plain ∙ rw value.0 (ap Ok value.1)

pub runs-outcome : (g : Geometry) (content : List ℕ) (s : Stream ℕ) (cells : List (Option ℕ)) → is_plain s.flags ≡ true → Some cells ≡ (if s.is_resident then None else Some s.cells) → IsReadable g s
    → g.clusters * g.cluster ≤ length content → stream_outcome g content s ≡ Ok (pieces g.cluster s.size s.valid (map_cells (cluster_at content g.cluster) cells))
unfolding bytes_of_stream
runs-outcome g content s cells plain is readable held =
    let runs = runs_of s.is_resident s.cells cells is in
    let f = cluster_at content g.cluster in
    plain-given g content s plain
    ∙ rw runs.0 (ap Ok (sym (runs-whole f g.cluster g.clusters s.size s.valid s.cells (clusters-long content g.cluster g.clusters held) readable.cells (readable.room runs.0))))
    ∙ ap (λ cs. Ok (pieces g.cluster s.size s.valid (map_cells f cs))) runs.1
