-- The bytes of runs, in a row.
use Rattle.std.proofs.Common.{◌≡◌, ◌≤◌, ◌<◌, ◌+◌, ◌-◌, ◌*◌, ◌==◌, ℕ, zero, suc, List, [], ◌∷◌, ◌++◌, length, take, drop, min, get_or, refl, sym, ap, ◌∙◌, arith, slice_range, append_assoc, length-append, Bool, true, false, Option, Some, None, nat_lt}
use Rattle.std.specs.Prelude.{replicate}
use Rattle.std.specs.Option.{option_map}
use Rattle.std.proofs.lemmas.List.{length-replicate, length-take-le, length-take, length-drop, take_all, take_at, drop-drop, drop-replicate, take-replicate, replicate-append-replicate, append-nil, places, same_lists}
use Rattle.std.proofs.Math.Nat.{mul-le-mul_left}
use Rattle.std.proofs.Math.Seq.{take-add}
use Rattle.std.proofs.lemmas.Bool.{false≢true, leb-true, ltb-true}
use borrow.Rule.Slice.PartMut.{put_mid}
use Rattle.ntfs_base.specs.Bytes.{cluster_at, overwrite}
use Rattle.ntfs_base.proofs.BytesLemmas.{length-cluster_at, take-drop-take}
use Rattle.ntfs_base.proofs.OverwriteLemmas.{put_mid-overwrite}
use Rattle.ntfs_runs.specs.Cells.{are_cells, map_cells}
use Rattle.ntfs_runs.specs.Clusters.{row, vcns}
use Rattle.ntfs_runs.specs.declared.run.Run.{Run}
use Rattle.ntfs_runs.proofs.CellsLemmas.{are_cells-some, are_cells-append, length-row}
use Rattle.ntfs_volume.specs.StreamBytes.{cell_bytes, cells_bytes}
use Rattle.ntfs_volume.proofs.AnswerLemmas.{and-left, and-right}

-- what was read from a place
pub read-from : (content into : List ℕ) (at from len size : ℕ) → into ≡ slice_range content at (at + len) → at ≡ from → len ≡ size
    → into ≡ take size (drop from content)
read-from content into at from len size is place long =
    let count : at + len - at ≡ size = omega arith in
    is ∙ ap (λ n. take n (drop at content)) count ∙ ap (λ p. take size (drop p content)) place

-- ---- the bytes of one run

pub run-bytes : (image : List ℕ) (c n k : ℕ)
    → cells_bytes c (map_cells (cluster_at image c) (row n (Some k))) ≡ take (n * c) (drop (k * c) image)
unfolding cluster_at cells_bytes row
run-bytes image c zero k = let none : 0 * c ≡ 0 = omega arith in sym (ap (λ m. take m (drop (k * c) image)) none)
run-bytes image c (suc n) k =
    let next : k * c + c ≡ (k + 1) * c = omega arith in
    let more : suc n * c ≡ c + n * c = omega arith in
    ap (λ xs. take c (drop (k * c) image) ++ xs)
    (run-bytes image c n (k + 1) ∙ ap (λ p. take (n * c) (drop p image)) (sym next) ∙ ap (take (n * c)) (sym (drop-drop c (k * c) image)))
    ∙ sym (ap (λ m. take m (drop (k * c) image)) more ∙ take-add c (n * c) (drop (k * c) image))

pub hole-bytes : (f : ℕ → List ℕ) (c n : ℕ) → cells_bytes c (map_cells f (row n None)) ≡ replicate (n * c) 0
unfolding cells_bytes row
hole-bytes f c zero = let none : 0 * c ≡ 0 = omega arith in sym (ap (λ m. replicate m 0) none)
hole-bytes f c (suc n) =
    let more : c + n * c ≡ suc n * c = omega arith in
    ap (λ xs. replicate c 0 ++ xs) (hole-bytes f c n) ∙ replicate-append-replicate c (n * c) 0 ∙ ap (λ m. replicate m 0) more

pub run-read : (image into : List ℕ) (c n k from m at count : ℕ) → into ≡ slice_range image at (at + count) → at ≡ k * c + from → count ≡ m → from + m ≤ n * c
    → into ≡ take m (drop from (cells_bytes c (map_cells (cluster_at image c) (row n (Some k)))))
run-read image into c n k from m at count is place long within =
    read-from image into at (k * c + from) count m is place long
    ∙ ap (take m) (sym (drop-drop from (k * c) image))
    ∙ sym (take-drop-take from m (n * c) (drop (k * c) image) within)
    ∙ sym (ap (λ xs. take m (drop from xs)) (run-bytes image c n k))

pub hole-read : (f : ℕ → List ℕ) (c n from m : ℕ) → from + m ≤ n * c
    → take m (drop from (cells_bytes c (map_cells f (row n None)))) ≡ replicate m 0
hole-read f c n from m within =
    ap (λ xs. take m (drop from xs)) (hole-bytes f c n)
    ∙ ap (take m) (drop-replicate from (n * c) 0)
    ∙ take-replicate m (n * c - from) 0 (omega arith)

-- a run with bytes ends before the last cluster
pub run-below : (holes : Bool) (n l k : ℕ) → are_cells holes n (row k (Some l)) ≡ true → 0 < k → l + k ≤ n
run-below holes n l k are some =
    let le = leb-true k (n - l) (sym (are_cells-some holes n l k) ∙ are) in omega (arith, le)

pub run-inside : (l k n c size : ℕ) → l + k ≤ n → n * c ≤ size → l * c + k * c ≤ size
run-inside l k n c size within held = let all : c * (l + k) ≤ c * n = mul-le-mul_left c within in omega (arith, all, held)

pub clusters-small : (n c : ℕ) → n ≤ 4294967296 → c ≤ 65536 → n * c ≤ 281474976710656
clusters-small n c few small = let all : c * n ≤ c * 4294967296 = mul-le-mul_left c few in omega (arith, all, small)

pub not-empty : (n : ℕ) → false ≡ (n == 0) → 0 < n
not-empty zero is = absurd (false≢true is)
not-empty (suc n) is = omega arith

pub some-cells : (k c from m : ℕ) → 0 < m → from + m ≤ k * c → 0 < k
some-cells zero c from m some within = let none : 0 * c ≡ 0 = omega arith in absurd (omega (arith, none))
some-cells (suc k) c from m some within = omega arith

-- ---- one run more

pub cells_bytes-append : (c : ℕ) (xs ys : List (Option (List ℕ))) → cells_bytes c (xs ++ ys) ≡ cells_bytes c xs ++ cells_bytes c ys
unfolding cells_bytes
cells_bytes-append c [] ys = refl
cells_bytes-append c (x ∷ xs) ys = ap (λ zs. cell_bytes c x ++ zs) (cells_bytes-append c xs ys) ∙ sym (append_assoc (cell_bytes c x) (cells_bytes c xs) (cells_bytes c ys))

map_cells-append : (f : ℕ → List ℕ) (xs ys : List (Option ℕ)) → map_cells f (xs ++ ys) ≡ map_cells f xs ++ map_cells f ys
map_cells-append f [] ys = refl
map_cells-append f (x ∷ xs) ys = ap (λ zs. option_map f x ∷ zs) (map_cells-append f xs ys)

pub bytes-append : (f : ℕ → List ℕ) (c : ℕ) (xs ys : List (Option ℕ)) → cells_bytes c (map_cells f (xs ++ ys)) ≡ cells_bytes c (map_cells f xs) ++ cells_bytes c (map_cells f ys)
bytes-append f c xs ys = ap (cells_bytes c) (map_cells-append f xs ys) ∙ cells_bytes-append c (map_cells f xs) (map_cells f ys)

abbrev pub no_run : Run
no_run = record { length = 0; lcn = None }

pub vcns-next : (runs : List Run) (i : ℕ) → i < length runs → vcns (drop i runs) ≡ row (get_or runs i no_run).length (get_or runs i no_run).lcn ++ vcns (drop (i + 1) runs)
unfolding vcns
vcns-next [] i lt = absurd (omega arith)
vcns-next (run ∷ runs) zero lt = refl
vcns-next (run ∷ runs) (suc i) lt =
    let next : suc (i + 1) ≡ suc i + 1 = omega arith in
    vcns-next runs i (omega arith) ∙ ap (λ n. row (get_or runs i no_run).length (get_or runs i no_run).lcn ++ vcns (drop n (run ∷ runs))) next

-- every cluster below n has c bytes
pub clusters-long : (content : List ℕ) (c n : ℕ) → n * c ≤ length content → (k : ℕ) → k < n → length (cluster_at content c k) ≡ c
clusters-long content c n held k below = length-cluster_at content c k (let end : k * c + c ≤ n * c = grind arith in omega (arith, end))

pub length-cells : (f : ℕ → List ℕ) (holes : Bool) (c n : ℕ) (cells : List (Option ℕ)) → ((k : ℕ) → k < n → length (f k) ≡ c) → are_cells holes n cells ≡ true
    → length (cells_bytes c (map_cells f cells)) ≡ length cells * c
unfolding are_cells cells_bytes
length-cells f holes c n [] long are = omega arith
length-cells f holes c n (None ∷ cells) long are =
    omega (arith, length-append (replicate c 0) (cells_bytes c (map_cells f cells)), length-replicate {A = ℕ} c 0, length-cells f holes c n cells long (and-right holes (are_cells holes n cells) are))
length-cells f holes c n (Some k ∷ cells) long are =
    omega (arith, length-append (f k) (cells_bytes c (map_cells f cells)), long k (ltb-true k n (and-left (nat_lt k n) (are_cells holes n cells) are)), length-cells f holes c n cells long (and-right (nat_lt k n) (are_cells holes n cells) are))

-- bytes from a place on lie in the first part, or behind it
pub split-bytes : (m s q : ℕ) (xs ys : List ℕ) → q ≡ min (length xs - s) m → take m (drop s (xs ++ ys)) ≡ take q (drop s xs) ++ take (m - q) (drop (s - length xs) ys)
split-bytes m s q xs ys is = same_lists _ _ (grind (arith, places)) (λ k d h. grind (arith, places))

put_is : (block part : List ℕ) (at count : ℕ) → at + count ≤ length block → length part ≡ count → put_mid at (at + count - at) block part ≡ take at block ++ (part ++ drop (at + count) block)
unfolding overwrite
put_is block part at count within long =
    let whole = put_mid-overwrite at block part part (omega arith) refl in
    ap (λ n. put_mid at (at + n - at) block part) (sym long) ∙ whole ∙ ap (λ n. take at block ++ (part ++ drop (at + n) block)) long

pub length-put : (block part : List ℕ) (at count : ℕ) → at + count ≤ length block → length part ≡ count → length (put_mid at (at + count - at) block part) ≡ length block
length-put block part at count within long =
    ap length (put_is block part at count within long)
    ∙ omega (arith, length-append (take at block) (part ++ drop (at + count) block), length-append part (drop (at + count) block), length-take-le at block (omega arith), length-drop (at + count) block)

pub length-part : (block : List ℕ) (at count : ℕ) → at + count ≤ length block → length (take (at + count - at) (drop at block)) ≡ count
length-part block at count within = simp (length-take, length-drop) (omega arith)

-- a piece more was read
pub front-put : (block part : List ℕ) (at count : ℕ) → at + count ≤ length block → length part ≡ count → take (at + count) (put_mid at (at + count - at) block part) ≡ take at block ++ part
front-put block part at count within long =
    let front : length (take at block ++ part) ≡ at + count = omega (arith, length-append (take at block) part, length-take-le at block (omega arith)) in
    ap (take (at + count)) (put_is block part at count within long ∙ sym (append_assoc (take at block) part (drop (at + count) block)))
    ∙ take_at (take at block ++ part) (drop (at + count) block) (at + count) front

-- what is left to be read behind one run more
pub piece-more : (block part first rest whole : List ℕ) (done count skip all : ℕ) → done + count ≤ length block → length part ≡ count → count ≡ min (length first - skip) (all - done)
    → take done block ++ take (all - done) (drop skip (first ++ rest)) ≡ whole → part ≡ take count (drop skip first)
    → take (done + count) (put_mid done (done + count - done) block part) ++ take (all - (done + count)) (drop (skip - length first) rest) ≡ whole
piece-more block part first rest whole done count skip all within long least before is =
    let left : all - done - count ≡ all - (done + count) = omega arith in
    ap (λ xs. xs ++ take (all - (done + count)) (drop (skip - length first) rest)) (front-put block part done count within long)
    ∙ append_assoc (take done block) part (take (all - (done + count)) (drop (skip - length first) rest))
    ∙ ap (λ xs. take done block ++ (xs ++ take (all - (done + count)) (drop (skip - length first) rest))) is
    ∙ ap (λ n. take done block ++ (take count (drop skip first) ++ take n (drop (skip - length first) rest))) (sym left)
    ∙ sym (ap (λ xs. take done block ++ xs) (split-bytes (all - done) skip count first rest least))
    ∙ before

pub cells-first : (n : ℕ) (runs : List Run) (i : ℕ) → i < length runs → are_cells true n (vcns (drop i runs)) ≡ true
    → are_cells true n (row (get_or runs i no_run).length (get_or runs i no_run).lcn) ≡ true
cells-first n runs i lt are =
    let run = get_or runs i no_run in
    and-left (are_cells true n (row run.length run.lcn)) (are_cells true n (vcns (drop (i + 1) runs)))
    (sym (are_cells-append true n (row run.length run.lcn) (vcns (drop (i + 1) runs))) ∙ ap (are_cells true n) (sym (vcns-next runs i lt)) ∙ are)

pub cells-rest : (n : ℕ) (runs : List Run) (i : ℕ) → i < length runs → are_cells true n (vcns (drop i runs)) ≡ true
    → are_cells true n (vcns (drop (i + 1) runs)) ≡ true
cells-rest n runs i lt are =
    let run = get_or runs i no_run in
    and-right (are_cells true n (row run.length run.lcn)) (are_cells true n (vcns (drop (i + 1) runs)))
    (sym (are_cells-append true n (row run.length run.lcn) (vcns (drop (i + 1) runs))) ∙ ap (are_cells true n) (sym (vcns-next runs i lt)) ∙ are)

pub run-more : (f : ℕ → List ℕ) (c n : ℕ) (runs : List Run) (i skip done all q b : ℕ) (block part whole : List ℕ) → ((k : ℕ) → k < n → length (f k) ≡ c) → i < length runs
    → are_cells true n (vcns (drop i runs)) ≡ true → done + q ≤ length block → length part ≡ q → b ≡ (get_or runs i no_run).length * c → q ≡ min (b - skip) (all - done)
    → take done block ++ take (all - done) (drop skip (cells_bytes c (map_cells f (vcns (drop i runs))))) ≡ whole
    → part ≡ take q (drop skip (cells_bytes c (map_cells f (row (get_or runs i no_run).length (get_or runs i no_run).lcn))))
    → take (done + q) (put_mid done (done + q - done) block part) ++ take (all - (done + q)) (drop (skip - b) (cells_bytes c (map_cells f (vcns (drop (i + 1) runs))))) ≡ whole
run-more f c n runs i skip done all q b block part whole each lt are within long size least before is =
    let run = get_or runs i no_run in
    let first = cells_bytes c (map_cells f (row run.length run.lcn)) in
    let rest = cells_bytes c (map_cells f (vcns (drop (i + 1) runs))) in
    let both : cells_bytes c (map_cells f (vcns (drop i runs))) ≡ first ++ rest = ap (λ cells. cells_bytes c (map_cells f cells)) (vcns-next runs i lt) ∙ bytes-append f c (row run.length run.lcn) (vcns (drop (i + 1) runs)) in
    let count : length first ≡ b = length-cells f true c n (row run.length run.lcn) each (cells-first n runs i lt are) ∙ ap (λ m. m * c) (length-row run.length run.lcn) ∙ sym size in
    ap (λ m. take (done + q) (put_mid done (done + q - done) block part) ++ take (all - (done + q)) (drop (skip - m) rest)) (sym count)
    ∙ piece-more block part first rest whole done q skip all within long (least ∙ ap (λ m. min (m - skip) (all - done)) (sym count))
    (ap (λ xs. take done block ++ take (all - done) (drop skip xs)) (sym both) ∙ before) is

pub reach-more : (a b c p skip done all q : ℕ) → p ≡ a * c → skip + (all - done) ≤ (a + b) * c → q ≡ min (p - skip) (all - done) → (skip - p) + (all - (done + q)) ≤ b * c
reach-more a b c p skip done all q is reach least = omega (arith, is, reach, least)

pub within-more : (p skip all done q : ℕ) → q ≡ min (p - skip) (all - done) → 0 < q → skip + q ≤ p
within-more p skip all done q least some = omega (arith, least)

-- nothing is left
pub all-read : (block whole : List ℕ) (done all skip c : ℕ) → all ≡ length block → done ≤ length block → skip + (all - done) ≤ 0 * c → take done block ++ take (all - done) (drop skip (cells_bytes c [])) ≡ whole → whole ≡ block
unfolding cells_bytes
all-read block whole done all skip c long within reach is =
    let nothing : 0 * c ≡ 0 = omega arith in
    let none : all - done ≡ 0 = omega (arith, nothing, reach) in
    sym is ∙ ap (λ m. take done block ++ take m (drop skip [])) none ∙ append-nil (take done block) ∙ take_all done block (omega (arith, none, long))
