-- The bytes of runs between two of their places, and the records in them.
use Rattle.std.proofs.Common.{◌≡◌, ◌≤◌, ◌<◌, ◌+◌, ◌-◌, ◌*◌, ◌/◌, ℕ, List, ◌++◌, length, take, drop, min, get_or, refl, sym, ap, ◌∙◌, arith, subst, length-append, true, Some, nat_le, nat_lt}
use Rattle.std.proofs.lemmas.List.{take-append-drop, take_min, drop-drop, length-take, length-take-le, length-drop}
use Rattle.std.proofs.Math.Nat.{div-mul-le_self, mul-div-le, mul-le-mul_left}
use Rattle.std.proofs.lemmas.Nat.{le-div}
use Rattle.std.proofs.Math.Seq.{drop-append-add, take-add}
use Rattle.std.proofs.lemmas.Bool.{leb-true, ltb-true}
use Rattle.ntfs_base.specs.Bytes.{raw_of, stream}
use Rattle.ntfs_base.proofs.BytesLemmas.{raw_of-within, take-drop-append, take-drop-take}
use Rattle.ntfs_boot.specs.declared.geometry.Geometry.{Geometry}
use Rattle.ntfs_runs.specs.Cells.{are_cells, map_cells}
use Rattle.ntfs_runs.specs.Clusters.{vcns}
use Rattle.ntfs_runs.specs.declared.run.Run.{Run}
use Rattle.ntfs_runs.proofs.CellsLemmas.{are_cells-append, count-next, vcns-append}
use Rattle.ntfs_volume.specs.MftMap.{Map, is_record_count, is_table}
use Rattle.ntfs_volume.specs.Opened.{IsTable, opened_by}
use Rattle.ntfs_volume.specs.Records.{raw_record}
use Rattle.ntfs_volume.specs.Scan.{IsScan}
use Rattle.ntfs_volume.specs.StreamBytes.{cells_bytes, have_room}
use Rattle.ntfs_volume.proofs.AnswerLemmas.{and-left, and-right}
use Rattle.ntfs_volume.proofs.PieceLemmas.{bytes-append, length-cells, no_run}
use Rattle.ntfs_volume.proofs.TableLemmas.{table-room}

-- ---- runs before a run, and behind it

cells-parts : (runs : List Run) (i : ℕ) → vcns runs ≡ vcns (take i runs) ++ vcns (drop i runs)
cells-parts runs i = ap vcns (sym (take-append-drop i runs)) ∙ vcns-append (take i runs) (drop i runs)

count-parts : (runs : List Run) (i : ℕ) → length (vcns runs) ≡ length (vcns (take i runs)) + length (vcns (drop i runs))
count-parts runs i = ap length (cells-parts runs i) ∙ length-append (vcns (take i runs)) (vcns (drop i runs))

-- the VCNs of one run more
pub front-next : (runs : List Run) (i : ℕ) → i < length runs → length (vcns (take (i + 1) runs)) ≡ length (vcns (take i runs)) + (get_or runs i no_run).length
front-next runs i lt = omega (arith, count-parts runs i, count-parts runs (i + 1), count-next runs i lt)

front-between : (runs : List Run) (i k : ℕ) → length (vcns (take (i + k) runs)) ≡ length (vcns (take i runs)) + length (vcns (take k (drop i runs)))
front-between runs i k =
    ap (λ rs. length (vcns rs)) (take-add i k runs) ∙ ap length (vcns-append (take i runs) (take k (drop i runs)))
    ∙ length-append (vcns (take i runs)) (vcns (take k (drop i runs)))

room_between : (a b c p q m all : ℕ) → all ≡ a + b → p ≡ a * c → p ≤ q → q + m ≤ all * c → q - p + m ≤ b * c
room_between a b c p q m all is begins above below =
    let within : q + m ≤ (a + b) * c = subst (λ (n : ℕ). q + m ≤ n * c) is below in omega (arith, begins, above, within)

-- the bytes between two places lie in the runs between them
pub between-room : (runs : List Run) (c i j p q m : ℕ) → i ≤ j → p ≡ length (vcns (take i runs)) * c → p ≤ q → q + m ≤ length (vcns (take j runs)) * c
    → q - p + m ≤ length (vcns (take (j - i) (drop i runs))) * c
between-room runs c i j p q m le begins above below =
    let parts : i + (j - i) ≡ j = omega arith in
    room_between (length (vcns (take i runs))) (length (vcns (take (j - i) (drop i runs)))) c p q m (length (vcns (take j runs)))
    (ap (λ n. length (vcns (take n runs))) (sym parts) ∙ front-between runs i (j - i)) begins above below

cells-middle : (runs : List Run) (i k : ℕ) → vcns runs ≡ vcns (take i runs) ++ (vcns (take k (drop i runs)) ++ vcns (drop k (drop i runs)))
cells-middle runs i k = cells-parts runs i ∙ ap (λ cells. vcns (take i runs) ++ cells) (cells-parts (drop i runs) k)

cells-front : (n : ℕ) (runs : List Run) (i : ℕ) → are_cells true n (vcns runs) ≡ true → are_cells true n (vcns (take i runs)) ≡ true
cells-front n runs i are =
    and-left (are_cells true n (vcns (take i runs))) (are_cells true n (vcns (drop i runs)))
    (sym (are_cells-append true n (vcns (take i runs)) (vcns (drop i runs))) ∙ ap (are_cells true n) (sym (cells-parts runs i)) ∙ are)

cells-behind : (n : ℕ) (runs : List Run) (i : ℕ) → are_cells true n (vcns runs) ≡ true → are_cells true n (vcns (drop i runs)) ≡ true
cells-behind n runs i are =
    and-right (are_cells true n (vcns (take i runs))) (are_cells true n (vcns (drop i runs)))
    (sym (are_cells-append true n (vcns (take i runs)) (vcns (drop i runs))) ∙ ap (are_cells true n) (sym (cells-parts runs i)) ∙ are)

pub cells-between : (n : ℕ) (runs : List Run) (i k : ℕ) → are_cells true n (vcns runs) ≡ true → are_cells true n (vcns (take k (drop i runs))) ≡ true
cells-between n runs i k are = cells-front n (drop i runs) k (cells-behind n runs i are)

-- bytes that are read between two places are those of all runs that lie there
pub bytes-between : (f : ℕ → List ℕ) (c n : ℕ) (runs : List Run) (i k p q m : ℕ) → ((k : ℕ) → k < n → length (f k) ≡ c) → are_cells true n (vcns runs) ≡ true
    → p ≡ length (vcns (take i runs)) * c → p ≤ q → q - p + m ≤ length (vcns (take k (drop i runs))) * c
    → take m (drop q (cells_bytes c (map_cells f (vcns runs)))) ≡ take m (drop (q - p) (cells_bytes c (map_cells f (vcns (take k (drop i runs))))))
bytes-between f c n runs i k p q m each are begins above room =
    let first = cells_bytes c (map_cells f (vcns (take i runs))) in
    let part = cells_bytes c (map_cells f (vcns (take k (drop i runs)))) in
    let rest = cells_bytes c (map_cells f (vcns (drop k (drop i runs)))) in
    let parts : cells_bytes c (map_cells f (vcns runs)) ≡ first ++ (part ++ rest) =
    ap (λ cells. cells_bytes c (map_cells f cells)) (cells-middle runs i k)
    ∙ bytes-append f c (vcns (take i runs)) (vcns (take k (drop i runs)) ++ vcns (drop k (drop i runs)))
    ∙ ap (λ bytes. first ++ bytes) (bytes-append f c (vcns (take k (drop i runs))) (vcns (drop k (drop i runs)))) in
    let before : length first ≡ p = length-cells f true c n (vcns (take i runs)) each (cells-front n runs i are) ∙ sym begins in
    let long : length part ≡ length (vcns (take k (drop i runs))) * c = length-cells f true c n (vcns (take k (drop i runs))) each (cells-between n runs i k are) in
    let place : q ≡ length first + (q - p) = omega (arith, before, above) in
    ap (λ bytes. take m (drop q bytes)) parts
    ∙ ap (λ at. take m (drop at (first ++ (part ++ rest)))) place
    ∙ ap (take m) (drop-append-add first (part ++ rest) (q - p))
    ∙ take-drop-append (q - p) m part rest (omega (arith, long, room))

-- a front that is cut at the end of all runs
pub front-cut : (runs : List Run) (i end : ℕ) → end ≡ min (length runs) i → take end runs ≡ take i runs
front-cut runs i end is = let same : end ≡ min i (length runs) = omega (arith, is) in ap (λ n. take n runs) same ∙ take_min i runs

end_next : (a l c n begins len size : ℕ) → n ≡ a + l → begins ≡ a * c → len ≡ l → size ≡ c → begins + len * size ≡ n * c
end_next a l c n begins len size is first long same =
    let both : len * size ≡ l * c = ap (λ k. k * size) long ∙ ap (λ k. l * k) same in
    let all : n * c ≡ a * c + l * c = ap (λ k. k * c) is ∙ omega arith in
    omega (arith, both, all, first)

-- where a run ends
pub run-end : (runs : List Run) (c i begins len size : ℕ) → i < length runs → begins ≡ length (vcns (take i runs)) * c → len ≡ (get_or runs i no_run).length → size ≡ c
    → begins + len * size ≡ length (vcns (take (i + 1) runs)) * c
run-end runs c i begins len size lt first long same =
    end_next (length (vcns (take i runs))) (get_or runs i no_run).length c (length (vcns (take (i + 1) runs))) begins len size (front-next runs i lt) first long same

-- ---- records in a row

-- so many records from one on end where the initialised part ends, or before
pub records-end : (r count valid size k there : ℕ) → 0 < size → k ≡ size → there ≡ valid / size → r ≤ there → count ≤ there - r → r * k + count * k ≤ valid
records-end r count valid size k there some same is within most =
    let last : r + count ≤ valid / size = omega (arith, is, within, most) in
    let ends : size * (r + count) ≤ size * (valid / size) = mul-le-mul_left size last in
    let all : r * k + count * k ≡ size * (r + count) = ap (λ n. r * n + count * n) same ∙ omega arith in
    omega (arith, ends, all, mul-div-le valid size)

-- as many pieces as fit in so many bytes fit in them
pub pieces-fit : (count n len k : ℕ) → count ≡ min n (len / k) → count * k ≤ len
pieces-fit count n len k is =
    let most : k * count ≤ k * (len / k) = mul-le-mul_left k (let few : count ≤ len / k = omega (arith, is) in few) in
    omega (arith, most, mul-div-le len k)

-- a record among those that were read in a row
pub record-among : (g : Geometry) (map : Map) (f : ℕ → List ℕ) (all row rest : List ℕ) (r count i k m : ℕ) → all ≡ stream f map.clusters → map.valid ≤ length all
    → 0 < g.record_size → k ≡ g.record_size → r * k + count * k ≤ map.valid → m ≡ count * k → row ≡ take m (drop (r * k) all) → i < count
    → raw_of g.record_size (row ++ rest) i ≡ raw_record g map f (r + i)
unfolding raw_record
record-among g map f all row rest r count i k m told within some same ends long is lt =
    let size = g.record_size in
    let count_size : count * k ≡ count * size = ap (λ n. count * n) same in
    let place : r * k ≡ r * size = ap (λ n. r * n) same in
    let one_more : i + 1 ≤ count = omega (arith, lt) in
    let most : size * (i + 1) ≤ size * count = mul-le-mul_left size one_more in
    let piece : i * size + size ≤ count * size = omega (arith, most) in
    let later : r * size + (i * size + size) ≤ map.valid = omega (arith, ends, count_size, place, piece) in
    let both : r * size + i * size ≡ (r + i) * size = omega arith in
    let there : (r + i) * size + size ≤ map.valid = omega (arith, later, both) in
    let row_long : length row ≡ m = ap length is ∙ simp (length-take, length-drop) (omega (arith, ends, within, long)) in
    raw_of-within size i (row ++ rest) (omega (arith, length-append row rest, row_long, long, count_size, piece))
    ∙ ap Some (take-drop-append (i * size) size row rest (omega (arith, row_long, long, count_size, piece))
    ∙ ap (λ bytes. take size (drop (i * size) bytes)) is
    ∙ take-drop-take (i * size) size m (drop (r * k) all) (omega (arith, long, count_size, piece))
    ∙ ap (take size) (drop-drop (i * size) (r * k) all)
    ∙ ap (λ p. take size (drop p all)) (ap (λ p. p + i * size) place ∙ both))
    ∙ sym (raw_of-within size (r + i) (take map.valid all) (omega (arith, length-take-le map.valid all within, there))
    ∙ ap Some (take-drop-take ((r + i) * size) size map.valid all there))
    ∙ ap (λ bytes. raw_of size (take map.valid bytes) (r + i)) told

fewer : (a b n most : ℕ) → 0 < n → a ≤ b → b / n < most → a / n < most
fewer a b n most some le lt = let same = le-div (a / n) b n some (let most = div-mul-le_self a n in omega (arith, most, le)) in omega (arith, same, lt)

-- there are fewer than 2^32 records in the initialised part
pub initialised-few : (g : Geometry) (count size valid : ℕ) → is_table g count size valid ≡ true → 0 < g.record_size → valid / g.record_size < 4294967296
unfolding is_table is_record_count
initialised-few g count size valid is some =
    let room = and-left (have_room g.cluster count size valid) (is_record_count (size / g.record_size)) is in
    let least = leb-true valid size (and-right (nat_le size (count * g.cluster)) (nat_le valid size) room) in
    let records = and-right (have_room g.cluster count size valid) (is_record_count (size / g.record_size)) is in
    let most = ltb-true (size / g.record_size) 4294967296 (and-right (nat_le 12 (size / g.record_size)) (nat_lt (size / g.record_size) 4294967296) records) in
    fewer valid size g.record_size 4294967296 some least most

-- a scan begins at the first run
pub scan-begins : (g : Geometry) (runs : List Run) (size valid : ℕ) → IsTable g runs size valid → IsScan (opened_by g runs size valid) runs (record { index = 0; begins = 0 }) 0
unfolding vcns
scan-begins g runs size valid table = record {
  table = table.table;
  clusters = refl;
  room = table-room g (length (vcns runs)) size valid table.fits;
  cursor = record { index = omega arith; begins = omega arith };
  above = omega arith;
  there = omega arith;
}
