-- The bytes of a made volume as they are read through rows of clusters.
use Rattle.std.proofs.Common.{◌≡◌, ◌≤◌, ◌<◌, ◌+◌, ◌*◌, ℕ, zero, suc, List, [], ◌∷◌, ◌++◌, length, take, drop, refl, ap, sym, ◌∙◌, arith, length-take, length-drop}
use Rattle.std.specs.Prelude.{slice_get, Some}
use Rattle.std.specs.List.{range_with_len}
use Rattle.std.proofs.Math.Nat.{add-mul, suc-mul, mul-le-mul_right}
use Rattle.std.proofs.Math.Seq.{take-add}
use Rattle.std.proofs.lemmas.List.{append-nil, drop-drop}
use Rattle.std.proofs.lemmas.List.FromFn.{length-map-range_with_len}
use Rattle.std.proofs.lemmas.Option.{slice_get_within}
use Rattle.ntfs_base.specs.Bytes.{cluster_at, clusters_for, join_clusters, raw_of, read_clusters, stream}
use Rattle.ntfs_base.specs.Writes.{byte_from}
use Rattle.ntfs_base.proofs.BytesLemmas.{raw_of-some, raw_of-within, stream-append, take-drop-append, take-drop-take, take-take}
use Rattle.ntfs_runs.specs.Clusters.{row}
use Rattle.ntfs_volume.specs.StreamBytes.{clusters_in}
use Rattle.ntfs_make.specs.declared.shape.Shape.{Shape}
use Rattle.ntfs_make.specs.Shape.{IsShape}
use Rattle.ntfs_make.specs.Areas.{area_at}
use Rattle.ntfs_make.specs.Table.{RowValue}
use Rattle.ntfs_make.specs.Rows.{rows}
use Rattle.ntfs_make.specs.Records.{record_of_row}
use Rattle.ntfs_make.specs.Volume.{volume_bytes_of, volume_writes, LiesInVolume}
use Rattle.ntfs_make.specs.Laws.{area_clusters, clusters_of_areas, read_areas}
use Rattle.ntfs_make.proofs.AreaLemmas.{covers}
use Rattle.ntfs_make.proofs.ReadLemmas.{lies-number}
use Rattle.ntfs_make.proofs.RowLemmas.{length-rows}
use Rattle.ntfs_make.proofs.ShapeLemmas.{bounds}
use Rattle.ntfs_make.proofs.StreamReadLemmas.{records-stand}
use Rattle.ntfs_made_map.proofs.PlaceLemmas.{rooms}

-- the bytes of a made volume
abbrev pub made_bytes : Shape → List ℕ
made_bytes shape = volume_bytes_of shape.seed shape.clusters shape.cluster

-- the bytes of a cluster of a made volume
abbrev pub made_cluster : Shape → ℕ → List ℕ
made_cluster shape = cluster_at (made_bytes shape) shape.cluster

pub length-made : (shape : Shape) → length (made_bytes shape) ≡ (shape.clusters + 1) * shape.cluster
unfolding volume_bytes_of
length-made shape =
    length-map-range_with_len (λ place. byte_from (volume_writes shape.seed shape.clusters shape.cluster) place 0) 0
    ((shape.clusters + 1) * shape.cluster)

-- ---- clusters in a row

pub stream-row : (image : List ℕ) (c start count : ℕ)
    → stream (cluster_at image c) (range_with_len start count) ≡ take (count * c) (drop (start * c) image)
unfolding cluster_at
stream-row image c start zero =
    let none : 0 * c ≡ 0 = omega arith in
    ap (λ n. take n (drop (start * c) image)) (sym none)
stream-row image c start (suc count) =
    let one = add-mul start 1 c in
    let next : (start + 1) * c ≡ start * c + c = omega arith in
    let more = suc-mul count c in
    let all : suc count * c ≡ c + count * c = omega arith in
    ap (λ bytes. take c (drop (start * c) image) ++ bytes)
    (stream-row image c (start + 1) count ∙ ap (λ n. take (count * c) (drop n image)) next
    ∙ ap (take (count * c)) (sym (drop-drop c (start * c) image)))
    ∙ sym (take-add c (count * c) (drop (start * c) image)) ∙ ap (λ n. take n (drop (start * c) image)) (sym all)

joined : (image : List ℕ) (c : ℕ) (ks : List ℕ)
    → join_clusters (read_clusters image c ks) ≡ stream (cluster_at image c) ks
joined image c [] = refl
joined image c (k ∷ ks) = ap (λ bytes. cluster_at image c k ++ bytes) (joined image c ks)

-- the bytes of clusters in a row of a made volume
abbrev pub made_stream : Shape → List ℕ → List ℕ
made_stream shape = stream (made_cluster shape)

-- the clusters of the first area of $MFT, of the second, and of both
abbrev pub first_clusters : Shape → List ℕ
first_clusters shape = area_clusters (area_at shape 1)

abbrev pub next_clusters : Shape → List ℕ
next_clusters shape = area_clusters (area_at shape 7)

abbrev pub mft_clusters : Shape → List ℕ
mft_clusters shape = clusters_of_areas shape (1 ∷ 7 ∷ [])

-- areas as they are read are the stream of their clusters
pub areas-stream : (shape : Shape) (numbers : List ℕ)
    → read_areas shape numbers ≡ made_stream shape (clusters_of_areas shape numbers)
areas-stream shape numbers = joined (made_bytes shape) shape.cluster (clusters_of_areas shape numbers)

pub length-area : (shape : Shape) (number : ℕ) → IsShape shape → number < 29
    → length (made_stream shape (area_clusters (area_at shape number)))
    ≡ (area_at shape number).length * shape.cluster
length-area shape number is few =
    let area = area_at shape number in
    let c = shape.cluster in
    let row = stream-row (made_bytes shape) c area.start area.length in
    let size = length-made shape in
    let lies : LiesInVolume shape area = lies-number shape number is few in
    let both = add-mul area.start area.length c in
    let most = mul-le-mul_right c lies.clusters in
    let next = add-mul shape.clusters 1 c in
    ap length row ∙ simp (length-take, length-drop) (omega arith)

-- ---- records by their numbers

pub table-stream : (shape : Shape) → made_stream shape (mft_clusters shape)
    ≡ made_stream shape (first_clusters shape) ++ made_stream shape (next_clusters shape)
table-stream shape =
    stream-append (made_cluster shape) (first_clusters shape) (next_clusters shape ++ [])
    ∙ ap (λ ks. made_stream shape (first_clusters shape) ++ made_stream shape ks)
    (append-nil (next_clusters shape))

-- where the record of a row stands in them
pub record-there : (shape : Shape) (r : ℕ) (one : RowValue) → IsShape shape → slice_get rows r ≡ Some one
    → (r * 1024 + 1024 ≤ length (made_stream shape (mft_clusters shape)))
    × (take 1024 (drop (r * 1024) (made_stream shape (mft_clusters shape))) ≡ record_of_row shape one)
record-there shape r one is there =
    raw_of-some 1024 r (made_stream shape (mft_clusters shape)) (record_of_row shape one)
    (ap (λ bytes. raw_of 1024 bytes r) (sym (areas-stream shape (1 ∷ 7 ∷ [])))
    ∙ records-stand shape.seed shape.clusters shape.cluster is r one there)

-- a piece that lies in the first m bytes
piece-front : (bytes piece : List ℕ) (r m : ℕ) → r * 1024 + 1024 ≤ length bytes → r * 1024 + 1024 ≤ m
    → take 1024 (drop (r * 1024) bytes) ≡ piece → raw_of 1024 (take m bytes) r ≡ Some piece
piece-front bytes piece r m within ends is =
    raw_of-within 1024 r (take m bytes) (omega (arith, length-take m bytes))
    ∙ ap Some (take-drop-take (r * 1024) 1024 m bytes ends ∙ is)

-- the record of a row is read by its number
pub record-read : (shape : Shape) (r : ℕ) (one : RowValue) → IsShape shape → slice_get rows r ≡ Some one
    → raw_of 1024 (take 65536 (made_stream shape (mft_clusters shape))) r ≡ Some (record_of_row shape one)
record-read shape r one is there =
    let few = slice_get_within rows r one there in
    let all = length-rows in
    let found = record-there shape r one is there in
    piece-front (made_stream shape (mft_clusters shape)) (record_of_row shape one) r 65536 found.0 (omega arith) found.1

-- also through the first area alone, where it lies there
pub record-in-front : (shape : Shape) (r : ℕ) (one : RowValue) → IsShape shape → slice_get rows r ≡ Some one
    → r * 1024 + 1024 ≤ (area_at shape 1).length * shape.cluster
    → take 1024 (drop (r * 1024) (made_stream shape (first_clusters shape))) ≡ record_of_row shape one
record-in-front shape r one is there within =
    let front = made_stream shape (first_clusters shape) in
    let rest = made_stream shape (next_clusters shape) in
    let long = length-area shape 1 is (omega arith) in
    sym (take-drop-append (r * 1024) 1024 front rest (omega arith))
    ∙ ap (λ bytes. take 1024 (drop (r * 1024) bytes)) (sym (table-stream shape))
    ∙ (record-there shape r one is there).1

pub record-known : (shape : Shape) (r : ℕ) (one : RowValue) → IsShape shape → slice_get rows r ≡ Some one
    → r * 1024 + 1024 ≤ (area_at shape 1).length * shape.cluster → r * 1024 + 1024 ≤ 65536
    → raw_of 1024 (take 65536 (made_stream shape (first_clusters shape))) r ≡ Some (record_of_row shape one)
record-known shape r one is there within few =
    let long = length-area shape 1 is (omega arith) in
    piece-front (made_stream shape (first_clusters shape)) (record_of_row shape one) r 65536 (omega arith) few
    (record-in-front shape r one is there within)

-- ---- the head of $MFT

pub row-clusters : (n k : ℕ) → clusters_in (row n (Some k)) ≡ range_with_len k n
unfolding row clusters_in
row-clusters zero k = refl
row-clusters (suc n) k = ap (λ ks. k ∷ ks) (row-clusters n (k + 1))

-- record 0 as it is read first
pub head-read : (shape : Shape) (first : RowValue) → IsShape shape → slice_get rows 0 ≡ Some first
    → take 1024 (made_stream shape
    (clusters_in (row (clusters_for 1024 shape.cluster) (Some (area_at shape 1).start)))) ≡ record_of_row shape first
head-read shape first is there =
    let b = bounds shape is in
    let r = rooms shape is in
    let area = area_at shape 1 in
    let c = shape.cluster in
    let count = clusters_for 1024 c in
    let room = covers 1024 c (omega arith) in
    let front = r.front in
    let none : area.start * c + 0 ≡ area.start * c = omega arith in
    ap (λ ks. take 1024 (made_stream shape ks)) (row-clusters count area.start)
    ∙ ap (take 1024) (stream-row (made_bytes shape) c area.start count)
    ∙ take-take 1024 (count * c) (drop (area.start * c) (made_bytes shape)) (omega arith)
    ∙ sym (take-take 1024 (area.length * c) (drop (area.start * c) (made_bytes shape)) (omega arith))
    ∙ ap (take 1024) (sym (stream-row (made_bytes shape) c area.start area.length))
    ∙ record-in-front shape 0 first is there (omega arith)
