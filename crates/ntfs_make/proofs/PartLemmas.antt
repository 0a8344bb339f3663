-- Parts of streams.
use Rattle.std.proofs.Common.{◌≡◌, ◌≤◌, ◌<◌, ◌+◌, ◌-◌, ◌*◌, ◌%◌, ◌⊎◌, inl, inr, ℕ, List, [], ◌++◌, length, take, drop, min, ap, sym, ◌∙◌, arith, length-take, length-drop, get_or-take, get_or-drop, append-nil}
use Rattle.std.proofs.Math.Seq.{drop-append-add}
use Rattle.std.proofs.lemmas.List.{take-append-drop}
use Rattle.std.proofs.lemmas.List.FromFn.{fill_by_all, length-map-range_with_len, get_or-map-range_with_len}
use Rattle.std.proofs.lemmas.Grind.{flat_map-append}
use Rattle.ntfs_base.proofs.BytesLemmas.{take-drop-append}
use Rattle.ntfs_make.specs.declared.shape.Shape.{Shape}
use Rattle.ntfs_make.specs.Table.{RowValue}
use Rattle.ntfs_make.specs.Records.{records_bytes, record_of_row}
use Rattle.ntfs_base.specs.Bytes.{piece_at}
use Rattle.ntfs_make.specs.Streams.{counting_bytes, HasBetween}
use Rattle.ntfs_make.proofs.StreamLemmas.{length-records}
use Rattle.ntfs_make.proofs.RowLemmas.{drop-all}

-- a stream that is there whole
pub whole-part : (from count : ℕ) (stream : List ℕ) → HasBetween from count stream 0 stream
whole-part from count stream =
    let same : from - 0 ≡ from = omega arith in
    record { begins = omega arith; has = ap (λ at. piece_at at count stream) same }

-- bytes in the middle that have so many from a place on
middle : (front bytes behind : List ℕ) (from count : ℕ) → length front ≤ from → (from - length front + count ≤ length bytes) ⊎ (behind ≡ [])
    → piece_at (from - length front) count bytes ≡ piece_at from count (front ++ (bytes ++ behind))
unfolding piece_at
middle front bytes behind from count begins ends =
    let at : length front + (from - length front) ≡ from = omega arith in
    let moved : drop from (front ++ (bytes ++ behind)) ≡ drop (from - length front) (bytes ++ behind)
    = ap (λ n. drop n (front ++ (bytes ++ behind))) (sym at) ∙ drop-append-add front (bytes ++ behind) (from - length front) in
    within ends ∙ ap (take count) (sym moved)
  where
    within : (from - length front + count ≤ length bytes) ⊎ (behind ≡ []) → piece_at (from - length front) count bytes ≡ piece_at (from - length front) count (bytes ++ behind)
    within (inl fits) = sym (take-drop-append (from - length front) count bytes behind fits)
    within (inr none) = ap (piece_at (from - length front) count) (sym (append-nil bytes) ∙ ap (λ rest. bytes ++ rest) (sym none))

length-take-rows : (rows : List RowValue) (n : ℕ) → n ≤ length rows → length (take n rows) ≡ n
length-take-rows rows n within = simp length-take (omega arith)

-- records in the middle
pub records-part : (shape : Shape) (rows : List RowValue) (first count_rows from count : ℕ) → first * 1024 ≤ from → first + count_rows ≤ length rows
    → (from + count ≤ (first + count_rows) * 1024) ⊎ (length rows ≤ first + count_rows)
    → HasBetween from count (records_bytes shape rows) (first * 1024) (records_bytes shape (take count_rows (drop first rows)))
records-part shape rows first count_rows from count begins within ends =
    let front = take first rows in
    let some = take count_rows (drop first rows) in
    let behind = drop count_rows (drop first rows) in
    let split : records_bytes shape rows ≡ records_bytes shape front ++ (records_bytes shape some ++ records_bytes shape behind)
    = ap (records_bytes shape) (sym (take-append-drop first rows)) ∙ flat_map-append (record_of_row shape) front (drop first rows)
    ∙ ap (λ rest. records_bytes shape front ++ rest) (ap (records_bytes shape) (sym (take-append-drop count_rows (drop first rows))) ∙ flat_map-append (record_of_row shape) some behind) in
    let rows_left : length (drop first rows) ≡ length rows - first = length-drop first rows in
    let long_front : length (records_bytes shape front) ≡ first * 1024 = length-records shape front ∙ ap (λ n. n * 1024) (length-take-rows rows first (omega arith)) in
    let long_some : length (records_bytes shape some) ≡ count_rows * 1024 = length-records shape some ∙ ap (λ n. n * 1024) (length-take-rows (drop first rows) count_rows (omega arith)) in
    let ends_so : (from - length (records_bytes shape front) + count ≤ length (records_bytes shape some)) ⊎ (records_bytes shape behind ≡ []) = elim ends [
      | inl before ↦ inl (omega arith)
      | inr all ↦ inr (ap (records_bytes shape) (drop-all (drop first rows) count_rows (omega arith)))
    ] in
    record {
      begins = begins;
      has = ap (λ n. piece_at (from - n) count (records_bytes shape some)) (sym long_front)
          ∙ middle (records_bytes shape front) (records_bytes shape some) (records_bytes shape behind) from count (omega arith) ends_so
          ∙ ap (piece_at from count) (sym split);
    }

-- bytes that count up from a place on
pub counting-part : (number size from count : ℕ) → HasBetween from count (counting_bytes number size) from (counting_bytes (number + from) (min (size - from) count))
unfolding counting_bytes piece_at
counting-part number size from count =
    let all = counting_bytes number size in
    let some = take count (drop from all) in
    let left = min (size - from) count in
    let long : length some ≡ left = simp (length-take, length-drop, length-map-range_with_len) (omega arith) in
    let same : some ≡ counting_bytes (number + from) left
    = fill_by_all (λ place. (number + from + place) % 256) some left 0 long (λ (k : ℕ) (below : k < left).
    get_or-take count (drop from all) k 0 (omega arith) ∙ get_or-drop from all k 0
    ∙ get_or-map-range_with_len (λ place. (number + place) % 256) 0 size (from + k) (from + k) 0 (omega arith) (omega arith)
    ∙ ap (λ n. n % 256) (omega arith)) in
    let whole : take count (counting_bytes (number + from) left) ≡ counting_bytes (number + from) left
    = fill_by_all (λ place. (number + from + place) % 256) (take count (counting_bytes (number + from) left)) left 0
    (simp (length-take, length-map-range_with_len) (omega arith)) (λ (k : ℕ) (below : k < left).
    get_or-take count (counting_bytes (number + from) left) k 0 (omega arith)
    ∙ get_or-map-range_with_len (λ place. (number + from + place) % 256) 0 left k k 0 below (omega arith)) in
    let none : from - from ≡ 0 = omega arith in
    record {
      begins = omega arith;
      has = ap (λ at. take count (drop at (counting_bytes (number + from) left))) none ∙ whole ∙ sym same;
    }
