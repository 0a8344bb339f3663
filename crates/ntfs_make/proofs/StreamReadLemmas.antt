-- Streams as they are read back from the volume, through the clusters of their areas.
use Rattle.std.proofs.Common.{◌≡◌, ◌≤◌, ◌<◌, ◌+◌, ◌-◌, ◌*◌, ◌/◌, ◌%◌, ◌==◌, ℕ, zero, suc, Bool, true, false, cond, List, [], ◌∷◌, ◌++◌, length, take, drop, map, get_or, slice_index, refl, ap, sym, ◌∙◌, subst, arith, length-take, length-drop, length-append, get_or-take, get_or-drop, append_assoc}
use Rattle.std.specs.Prelude.{slice_get, unwrap_or, Some}
use Rattle.std.specs.List.{range_with_len}
use Rattle.std.proofs.Math.Nat.{add-mul, suc-mul, mul-le-mul_right}
use Rattle.std.proofs.Math.Seq.{take-add, drop-append-add}
use Rattle.std.proofs.lemmas.List.{get_or_past, drop-drop, take_at}
use Rattle.std.proofs.lemmas.List.FromFn.{fill_by_all, length-map-range_with_len, get_or-map-range_with_len}
use Rattle.ntfs_base.specs.Bytes.{cluster_at, read_clusters, join_clusters, raw_of}
use Rattle.ntfs_base.specs.Writes.{byte_from}
use Rattle.ntfs_base.proofs.BytesLemmas.{raw_of-within}
use Rattle.ntfs_make.specs.declared.shape.Shape.{Shape}
use Rattle.ntfs_make.specs.declared.table.Area.{Area}
use Rattle.ntfs_make.specs.declared.table.AreaRow.{AreaRow}
use Rattle.ntfs_make.specs.declared.table.Content.{Content}
use Rattle.ntfs_make.specs.declared.table.Content.TheVariants.{Boot, Mft, Mirror, Log, Bitmap, UpCase, Index, Counting}
use Rattle.ntfs_make.specs.declared.table.ClusterCount.{ClusterCount}
use Rattle.ntfs_make.specs.declared.table.ClusterCount.TheVariants.{ForBytes, ForBitmap, Exactly, OfFile}
use Rattle.ntfs_make.specs.Shape.{IsShape, shape_of, bitmap_size}
use Rattle.ntfs_make.specs.Areas.{area_rows, area_row, area_row_from, file_area_row, area_from, areas_up, areas_down, areas_of, area_at, no_area, area_cluster_count}
use Rattle.ntfs_make.specs.Fields.{zero_bytes}
use Rattle.ntfs_make.specs.Table.{RowValue}
use Rattle.ntfs_make.specs.Rows.{rows, system_rows}
use Rattle.ntfs_make.specs.Index.{index_block}
use Rattle.ntfs_make.specs.UpCase.{up_case_bytes}
use Rattle.ntfs_make.specs.Boot.{boot_sector}
use Rattle.ntfs_make.specs.Records.{record_of_row, records_bytes, rows_between}
use Rattle.ntfs_make.specs.Streams.{content_bytes, ff_bytes}
use Rattle.ntfs_make.specs.Volume.{volume_bytes_of, volume_writes, LiesInVolume}
use Rattle.ntfs_make.specs.Laws.{area_clusters, clusters_of_areas, read_areas, WholeStream, whole_streams, file_stream, IsReadBack, HasRecords}
use Rattle.ntfs_make.proofs.ShapeLemmas.{bounds}
use Rattle.ntfs_make.proofs.AreaLemmas.{covers}
use Rattle.ntfs_make.proofs.StreamLemmas.{length-record, length-records, length-boot, length-index, length-ff, length-counting, length-bitmap, length-up_case, length-zeros}
use Rattle.ntfs_make.proofs.RowLemmas.{length-rows}
use Rattle.ntfs_make.proofs.ReadLemmas.{holds-number, lies-number}

-- ---- clusters in a row

join-append : (image : List ℕ) (c : ℕ) (front rest : List ℕ) → join_clusters (read_clusters image c (front ++ rest)) ≡ join_clusters (read_clusters image c front) ++ join_clusters (read_clusters image c rest)
join-append image c [] rest = refl
join-append image c (k ∷ front) rest =
    ap (λ bytes. cluster_at image c k ++ bytes) (join-append image c front rest)
    ∙ sym (append_assoc (cluster_at image c k) (join_clusters (read_clusters image c front)) (join_clusters (read_clusters image c rest)))

join-row : (image : List ℕ) (c start count : ℕ) → join_clusters (read_clusters image c (range_with_len start count)) ≡ take (count * c) (drop (start * c) image)
unfolding cluster_at
join-row image c start zero =
    let none : 0 * c ≡ 0 = omega arith in
    ap (λ n. take n (drop (start * c) image)) (sym none)
join-row image c start (suc count) =
    let one = add-mul start 1 c in
    let next : (start + 1) * c ≡ start * c + c = omega arith in
    let more = suc-mul count c in
    let all : suc count * c ≡ c + count * c = omega arith in
    ap (λ bytes. take c (drop (start * c) image) ++ bytes)
    (join-row image c (start + 1) count ∙ ap (λ n. take (count * c) (drop n image)) next ∙ ap (take (count * c)) (sym (drop-drop c (start * c) image)))
    ∙ sym (take-add c (count * c) (drop (start * c) image)) ∙ ap (λ n. take n (drop (start * c) image)) (sym all)

-- ---- the bytes of a stream from a place on

bytes_from : List ℕ → ℕ → ℕ → List ℕ
bytes_from stream from count = map (slice_index stream) (range_with_len from count)

from-append : (stream : List ℕ) (from m n : ℕ) → bytes_from stream from m ++ bytes_from stream (from + m) n ≡ bytes_from stream from (m + n)
unfolding bytes_from
from-append stream from zero n =
    let here : from + 0 ≡ from = omega arith in
    let all : 0 + n ≡ n = omega arith in
    ap (λ a. map (slice_index stream) (range_with_len a n)) here ∙ ap (λ k. map (slice_index stream) (range_with_len from k)) (sym all)
from-append stream from (suc m) n =
    let next : from + suc m ≡ from + 1 + m = omega arith in
    let all : suc m + n ≡ suc (m + n) = omega arith in
    ap (λ a. slice_index stream from ∷ (map (slice_index stream) (range_with_len (from + 1) m) ++ map (slice_index stream) (range_with_len a n))) next
    ∙ ap (λ bytes. slice_index stream from ∷ bytes) (from-append stream (from + 1) m n)
    ∙ ap (λ k. map (slice_index stream) (range_with_len from k)) (sym all)

-- what stands at places of a list is that list where its bytes are the stream's
from-is : (bytes stream : List ℕ) (from count : ℕ) → length bytes ≡ count → ((k : ℕ) → k < count → slice_index bytes k ≡ slice_index stream (from + k)) → bytes ≡ bytes_from stream from count
unfolding bytes_from
from-is bytes stream from count long same =
    fill_by_all (λ k. slice_index stream (from + k)) bytes count 0 long same
    ∙ sym (fill_by_all (λ k. slice_index stream (from + k)) (map (slice_index stream) (range_with_len from count)) count 0
    (length-map-range_with_len (slice_index stream) from count)
    (λ (k : ℕ) (below : k < count). get_or-map-range_with_len (slice_index stream) from count k (from + k) 0 below refl))

zeros-index : (n k : ℕ) → get_or (zero_bytes n) k 0 ≡ 0
unfolding zero_bytes
zeros-index zero k = get_or_past [] k 0 (omega arith)
zeros-index (suc n) zero = refl
zeros-index (suc n) (suc k) = zeros-index n k

padded-index : (stream : List ℕ) (n k : ℕ) → get_or (stream ++ zero_bytes n) k 0 ≡ get_or stream k 0
padded-index [] n k = zeros-index n k ∙ sym (get_or_past [] k 0 (omega arith))
padded-index (x ∷ stream) n zero = refl
padded-index (x ∷ stream) n (suc k) = padded-index stream n k

-- a stream whole, and zeros behind it
from-all : (stream : List ℕ) (count : ℕ) → length stream ≤ count → bytes_from stream 0 count ≡ stream ++ zero_bytes (count - length stream)
from-all stream count fits =
    let none = length-zeros (count - length stream) in
    let long : length (stream ++ zero_bytes (count - length stream)) ≡ count = length-append stream (zero_bytes (count - length stream)) ∙ omega arith in
    sym (from-is (stream ++ zero_bytes (count - length stream)) stream 0 count long (λ (k : ℕ) (below : k < count).
    let at : 0 + k ≡ k = omega arith in
    padded-index stream (count - length stream) k ∙ ap (slice_index stream) (sym at)))

-- ---- areas read back

length-volume : (shape : Shape) → length (volume_bytes_of shape.seed shape.clusters shape.cluster) ≡ (shape.clusters + 1) * shape.cluster
unfolding volume_bytes_of
length-volume shape = length-map-range_with_len (λ place. byte_from (volume_writes shape.seed shape.clusters shape.cluster) place 0) 0 ((shape.clusters + 1) * shape.cluster)

area-read : (shape : Shape) (number : ℕ) → IsShape shape → number < 29
    → join_clusters (read_clusters (volume_bytes_of shape.seed shape.clusters shape.cluster) shape.cluster (area_clusters (area_at shape number)))
    ≡ bytes_from (content_bytes shape (area_at shape number).content) ((area_at shape number).first_vcn * shape.cluster) ((area_at shape number).length * shape.cluster)
area-read shape number is few =
    let area = area_at shape number in
    let c = shape.cluster in
    let volume = volume_bytes_of shape.seed shape.clusters c in
    let bytes = take (area.length * c) (drop (area.start * c) volume) in
    let size = length-volume shape in
    let lies : LiesInVolume shape area = lies-number shape number is few in
    let both = add-mul area.start area.length c in
    let most = mul-le-mul_right c lies.clusters in
    let next = add-mul shape.clusters 1 c in
    let long : length bytes ≡ area.length * c = simp (length-take, length-drop) (omega arith) in
    join-row volume c area.start area.length
    ∙ from-is bytes (content_bytes shape area.content) (area.first_vcn * c) (area.length * c) long (λ (k : ℕ) (below : k < area.length * c).
    get_or-take (area.length * c) (drop (area.start * c) volume) k 0 below ∙ get_or-drop (area.start * c) volume k 0
    ∙ holds-number shape number is few k below)

-- the VCNs that areas have
abbrev vcns_in : Shape → List ℕ → ℕ
vcns_in shape [] = 0
vcns_in shape (number ∷ numbers) = (area_at shape number).length + vcns_in shape numbers

-- areas that hold a stream from a VCN on, one behind the other
abbrev AreInRow : Shape → Content → ℕ → List ℕ → Type 0
AreInRow shape content vcn [] = Unit {0}
AreInRow shape content vcn (number ∷ numbers) =
    (number < 29) × (((area_at shape number).content ≡ content) × (((area_at shape number).first_vcn ≡ vcn)
    × AreInRow shape content (vcn + (area_at shape number).length) numbers))

row-read : (shape : Shape) (content : Content) (vcn : ℕ) (numbers : List ℕ) → IsShape shape → AreInRow shape content vcn numbers
    → read_areas shape numbers ≡ bytes_from (content_bytes shape content) (vcn * shape.cluster) (vcns_in shape numbers * shape.cluster)
unfolding bytes_from
row-read shape content vcn [] is row =
    let none : 0 * shape.cluster ≡ 0 = omega arith in
    ap (λ n. bytes_from (content_bytes shape content) (vcn * shape.cluster) n) (sym none)
row-read shape content vcn (number ∷ numbers) is row =
    let area = area_at shape number in
    let c = shape.cluster in
    let stream = content_bytes shape content in
    let rest = row-read shape content (vcn + area.length) numbers is row.1.1.1 in
    let next = add-mul vcn area.length c in
    let all = add-mul area.length (vcns_in shape numbers) c in
    join-append (volume_bytes_of shape.seed shape.clusters c) c (area_clusters area) (clusters_of_areas shape numbers)
    ∙ ap (λ bytes. bytes ++ read_areas shape numbers) (area-read shape number is row.0
    ∙ ap (λ one. bytes_from (content_bytes shape one) (area.first_vcn * c) (area.length * c)) row.1.0
    ∙ ap (λ first. bytes_from stream (first * c) (area.length * c)) row.1.1.0)
    ∙ ap (λ bytes. bytes_from stream (vcn * c) (area.length * c) ++ bytes) (rest ∙ ap (λ from. bytes_from stream from (vcns_in shape numbers * c)) next)
    ∙ from-append stream (vcn * c) (area.length * c) (vcns_in shape numbers * c)
    ∙ ap (bytes_from stream (vcn * c)) (sym all)

-- a stream whose areas hold all of it
record IsHeld (shape : Shape) (one : WholeStream) : Type 0 where
  row : AreInRow shape one.content 0 one.areas
  whole : length (content_bytes shape one.content) ≤ vcns_in shape one.areas * shape.cluster

read-back : (shape : Shape) (one : WholeStream) → IsShape shape → IsHeld shape one → IsReadBack shape one
read-back shape one is held =
    let none : 0 * shape.cluster ≡ 0 = omega arith in (
      vcns_in shape one.areas * shape.cluster - length (content_bytes shape one.content),
      row-read shape one.content 0 one.areas is held.row
          ∙ ap (λ from. bytes_from (content_bytes shape one.content) from (vcns_in shape one.areas * shape.cluster)) none
          ∙ from-all (content_bytes shape one.content) (vcns_in shape one.areas * shape.cluster) held.whole,
    )

-- ---- the area of a row of the table

abbrev IsFrom : Shape → Area → AreaRow → Type 0
IsFrom shape area row = (start : ℕ) × (area ≡ area_from shape start row)

up-row : (shape : Shape) (start : ℕ) (rows : List AreaRow) (n : ℕ) (row : AreaRow) → slice_get rows n ≡ Some row → IsFrom shape (unwrap_or (slice_get (areas_up shape start rows) n) no_area) row
up-row shape start [] n row is = absurd cc
up-row shape start (first ∷ rows) zero row is = (start, cc)
up-row shape start (first ∷ rows) (suc n) row is = up-row shape (start + (area_cluster_count shape first.length + 1)) rows n row is

down-row : (shape : Shape) (bound : ℕ) (rows : List AreaRow) (n : ℕ) (row : AreaRow) → slice_get rows n ≡ Some row → IsFrom shape (unwrap_or (slice_get (areas_down shape bound rows) n) no_area) row
down-row shape bound [] n row is = absurd cc
down-row shape bound (first ∷ rows) zero row is = (bound - (area_cluster_count shape first.length + 1), cc)
down-row shape bound (first ∷ rows) (suc n) row is = down-row shape (bound - (area_cluster_count shape first.length + 1)) rows n row is

first-row : (shape : Shape) (bound : ℕ) (rows : List AreaRow) (n : ℕ) (row : AreaRow) → slice_get rows n ≡ Some row
    → IsFrom shape (unwrap_or (slice_get (areas_up shape 0 (take 1 rows) ++ areas_down shape bound (drop 1 rows)) n) no_area) row
first-row shape bound [] n row is = absurd cc
first-row shape bound (first ∷ rows) zero row is = (0, cc)
first-row shape bound (first ∷ rows) (suc n) row is = down-row shape bound rows n row is

either-row : (shape : Shape) (t : Bool) (n : ℕ) (row : AreaRow) → slice_get area_rows n ≡ Some row
    → IsFrom shape (unwrap_or (slice_get (cond t (areas_up shape 0 area_rows) (areas_up shape 0 (take 1 area_rows) ++ areas_down shape (shape.clusters + 1) (drop 1 area_rows))) n) no_area) row
either-row shape true n row is = up-row shape 0 area_rows n row is
either-row shape false n row is = first-row shape (shape.clusters + 1) area_rows n row is

row-of : (shape : Shape) (n : ℕ) (row : AreaRow) → slice_get area_rows n ≡ Some row → IsFrom shape (area_at shape n) row
unfolding area_at areas_of
row-of shape n row is = either-row shape (shape.seed / 2 % 2 == 0) n row is

-- ---- each stream is held

single : (shape : Shape) (n : ℕ) (count : ClusterCount) (content : Content) → n < 29 → slice_get area_rows n ≡ Some (area_row count content)
    → length (content_bytes shape content) ≤ area_cluster_count shape count * shape.cluster → IsHeld shape (record { content = content; areas = n ∷ [] })
unfolding area_cluster_count
single shape n count content few is fits =
    let area = row-of shape n (area_row count content) is in
    let long : (area_at shape n).length ≡ area_cluster_count shape count = ap (λ (a : Area). a.length) area.1 in
    let all : (area_at shape n).length + 0 ≡ area_cluster_count shape count = omega arith in
    record {
      row = (few, (ap (λ (a : Area). a.content) area.1, (ap (λ (a : Area). a.first_vcn) area.1, tt)));
      whole = subst (λ v. length (content_bytes shape content) ≤ v * shape.cluster) (sym all) fits;
    }

double : (shape : Shape) (n m : ℕ) (count behind : ClusterCount) (content : Content) → n < 29 → m < 29 → slice_get area_rows n ≡ Some (area_row count content)
    → slice_get area_rows m ≡ Some (area_row_from count behind content)
    → length (content_bytes shape content) ≤ (area_cluster_count shape count + area_cluster_count shape behind) * shape.cluster → IsHeld shape (record { content = content; areas = n ∷ m ∷ [] })
unfolding area_cluster_count
double shape n m count behind content few few_too is then fits =
    let area = row-of shape n (area_row count content) is in
    let next = row-of shape m (area_row_from count behind content) then in
    let long : (area_at shape n).length ≡ area_cluster_count shape count = ap (λ (a : Area). a.length) area.1 in
    let long_next : (area_at shape m).length ≡ area_cluster_count shape behind = ap (λ (a : Area). a.length) next.1 in
    let first : (area_at shape m).first_vcn ≡ 0 + (area_at shape n).length = ap (λ (a : Area). a.first_vcn) next.1 ∙ omega arith in
    let all : (area_at shape n).length + ((area_at shape m).length + 0) ≡ area_cluster_count shape count + area_cluster_count shape behind = omega arith in
    record {
      row = (few, (ap (λ (a : Area). a.content) area.1, (ap (λ (a : Area). a.first_vcn) area.1, (few_too, (ap (λ (a : Area). a.content) next.1, (first, tt))))));
      whole = subst (λ v. length (content_bytes shape content) ≤ v * shape.cluster) (sym all) fits;
    }

fits-bytes : (shape : Shape) (bytes : ℕ) (text : List ℕ) → IsShape shape → length text ≤ bytes → length text ≤ area_cluster_count shape (ForBytes bytes) * shape.cluster
unfolding area_cluster_count
fits-bytes shape bytes text is short =
    let b = bounds shape is in
    let room = covers bytes shape.cluster (omega arith) in
    omega arith

fits-mft : (shape : Shape) → IsShape shape → length (content_bytes shape Mft) ≤ (area_cluster_count shape (ForBytes 32768) + area_cluster_count shape (ForBytes 32768)) * shape.cluster
unfolding content_bytes area_cluster_count
fits-mft shape is =
    let b = bounds shape is in
    let room = covers 32768 shape.cluster (omega arith) in
    let both = add-mul (area_cluster_count shape (ForBytes 32768)) (area_cluster_count shape (ForBytes 32768)) shape.cluster in
    let long = length-records shape rows in
    let all = length-rows in
    omega arith

length-four : length (rows_between 0 4 rows) ≡ 4
unfolding system_rows
length-four = refl

fits-mirror : (shape : Shape) → IsShape shape → length (content_bytes shape Mirror) ≤ area_cluster_count shape (ForBytes 4096) * shape.cluster
unfolding content_bytes
fits-mirror shape is =
    let long = length-records shape (rows_between 0 4 rows) in
    let four : length (rows_between 0 4 rows) ≡ 4 = length-four in
    fits-bytes shape 4096 (records_bytes shape (rows_between 0 4 rows)) is (omega arith)

fits-bitmap : (shape : Shape) → IsShape shape → length (content_bytes shape Bitmap) ≤ area_cluster_count shape ForBitmap * shape.cluster
unfolding content_bytes area_cluster_count
fits-bitmap shape is =
    let b = bounds shape is in
    let long = length-bitmap shape (bitmap_size shape.clusters) in
    let room = covers (bitmap_size shape.clusters) shape.cluster (omega arith) in
    omega arith

fits-counting : (shape : Shape) (number : ℕ) (vcns : ClusterCount) → length (content_bytes shape (Counting number vcns)) ≤ area_cluster_count shape vcns * shape.cluster
unfolding content_bytes
fits-counting shape number vcns = let long = length-counting number (area_cluster_count shape vcns * shape.cluster) in omega arith

fits-listed : (shape : Shape) → length (content_bytes shape (Counting 21 (Exactly 2))) ≤ (area_cluster_count shape (Exactly 1) + area_cluster_count shape (Exactly 1)) * shape.cluster
unfolding area_cluster_count
fits-listed shape = fits-counting shape 21 (Exactly 2)

abbrev AllStreams : (WholeStream → Type 0) → List WholeStream → Type 0
AllStreams P [] = Unit {0}
AllStreams P (one ∷ others) = P one × AllStreams P others

stream-in : (P : WholeStream → Type 0) (some : List WholeStream) (i : ℕ) (one : WholeStream) → AllStreams P some → slice_get some i ≡ Some one → P one
stream-in P [] i one all is = absurd cc
stream-in P (first ∷ others) zero one all is = let same : first ≡ one = cc in subst P same all.0
stream-in P (first ∷ others) (suc i) one all is = stream-in P others i one all.1 is

file-held : (shape : Shape) (number : ℕ) → 13 + number < 29 → slice_get area_rows (13 + number) ≡ Some (file_area_row number) → IsHeld shape (file_stream number)
file-held shape number few is = single shape (13 + number) (OfFile number) (Counting (32 + number) (OfFile number)) few is (fits-counting shape (32 + number) (OfFile number))

all-held : (shape : Shape) → IsShape shape → AllStreams (IsHeld shape) whole_streams
unfolding whole_streams area_rows content_bytes
all-held shape is =
    let file = λ (number : ℕ) (few : 13 + number < 29) (row : slice_get area_rows (13 + number) ≡ Some (file_area_row number)). file-held shape number few row in
    let f12 : AllStreams (IsHeld shape) (drop 21 whole_streams) = (file 12 (omega arith) refl, (file 13 (omega arith) refl, (file 14 (omega arith) refl, (file 15 (omega arith) refl, tt)))) in
    let f9 : AllStreams (IsHeld shape) (drop 18 whole_streams) = (file 9 (omega arith) refl, (file 10 (omega arith) refl, (file 11 (omega arith) refl, f12))) in
    let f6 : AllStreams (IsHeld shape) (drop 15 whole_streams) = (file 6 (omega arith) refl, (file 7 (omega arith) refl, (file 8 (omega arith) refl, f9))) in
    let f3 : AllStreams (IsHeld shape) (drop 12 whole_streams) = (file 3 (omega arith) refl, (file 4 (omega arith) refl, (file 5 (omega arith) refl, f6))) in
    let f0 : AllStreams (IsHeld shape) (drop 9 whole_streams) = (file 0 (omega arith) refl, (file 1 (omega arith) refl, (file 2 (omega arith) refl, f3))) in
    let log = length-ff 65536 in
    let boot = length-boot shape in
    let index = length-index in
    let units = length-up_case 65536 in
    let listed = double shape 11 12 (Exactly 1) (Exactly 1) (Counting 21 (Exactly 2)) (omega arith) (omega arith) refl refl (fits-listed shape) in
    let half = single shape 9 (Exactly 2) (Counting 19 (Exactly 2)) (omega arith) refl (fits-counting shape 19 (Exactly 2)) in
    let block = single shape 6 (ForBytes 4096) Index (omega arith) refl (fits-bytes shape 4096 index_block is (omega arith)) in
    let table = single shape 5 (ForBytes 131072) UpCase (omega arith) refl (fits-bytes shape 131072 (up_case_bytes 65536) is (omega arith)) in
    let bits = single shape 4 ForBitmap Bitmap (omega arith) refl (fits-bitmap shape is) in
    let journal = single shape 3 (ForBytes 65536) Log (omega arith) refl (fits-bytes shape 65536 (ff_bytes 65536) is (omega arith)) in
    let mirror = single shape 2 (ForBytes 4096) Mirror (omega arith) refl (fits-mirror shape is) in
    let mft = double shape 1 7 (ForBytes 32768) (ForBytes 32768) Mft (omega arith) (omega arith) refl refl (fits-mft shape is) in
    let sector = single shape 0 (ForBytes 8192) Boot (omega arith) refl (fits-bytes shape 8192 (boot_sector shape) is (omega arith)) in
    let behind : AllStreams (IsHeld shape) (drop 4 whole_streams) = (bits, (table, (block, (half, (listed, f0))))) in
    (sector, (mft, (mirror, (journal, behind))))

pub streams-read-back : (seed clusters cluster i : ℕ) (one : WholeStream) → IsShape (shape_of seed clusters cluster) → slice_get whole_streams i ≡ Some one → IsReadBack (shape_of seed clusters cluster) one
streams-read-back seed clusters cluster i one is there =
    let shape = shape_of seed clusters cluster in
    read-back shape one is (stream-in (IsHeld shape) whole_streams i one (all-held shape is) there)

-- ---- records by their numbers

record-at : (shape : Shape) (some : List RowValue) (more : List ℕ) (r p : ℕ) (row : RowValue) → p ≡ r * 1024 → slice_get some r ≡ Some row → take 1024 (drop p (records_bytes shape some ++ more)) ≡ record_of_row shape row
record-at shape [] more r p row place is = absurd cc
record-at shape (first ∷ some) more zero p row place is =
    let here : p ≡ 0 = omega arith in
    let same : first ≡ row = cc in
    ap (λ n. take 1024 (drop n (records_bytes shape (first ∷ some) ++ more))) here
    ∙ ap (take 1024) (append_assoc (record_of_row shape first) (records_bytes shape some) more)
    ∙ take_at (record_of_row shape first) (records_bytes shape some ++ more) 1024 (length-record shape first)
    ∙ ap (record_of_row shape) same
record-at shape (first ∷ some) more (suc r) p row place is =
    let long = length-record shape first in
    let next = suc-mul r 1024 in
    let at : p ≡ length (record_of_row shape first) + r * 1024 = omega arith in
    ap (λ n. take 1024 (drop n (records_bytes shape (first ∷ some) ++ more))) at
    ∙ ap (λ bytes. take 1024 (drop (length (record_of_row shape first) + r * 1024) bytes)) (append_assoc (record_of_row shape first) (records_bytes shape some) more)
    ∙ ap (take 1024) (drop-append-add (record_of_row shape first) (records_bytes shape some ++ more) (r * 1024))
    ∙ record-at shape some more r (r * 1024) row refl is

slice_get-within : (some : List RowValue) (r : ℕ) (row : RowValue) → slice_get some r ≡ Some row → r < length some
slice_get-within [] r row is = absurd cc
slice_get-within (first ∷ some) zero row is = omega arith
slice_get-within (first ∷ some) (suc r) row is = let rest = slice_get-within some r row is in omega arith

has-records : (shape : Shape) → IsShape shape → HasRecords shape
unfolding content_bytes whole_streams
has-records shape is r row there =
    let read = read-back shape (record { content = Mft; areas = 1 ∷ 7 ∷ [] }) is (all-held shape is).1.0 in
    let more = zero_bytes read.0 in
    let long = length-records shape rows in
    let all = length-rows in
    let few = slice_get-within rows r row there in
    let both = length-append (records_bytes shape rows) more in
    ap (λ bytes. raw_of 1024 bytes r) read.1
    ∙ raw_of-within 1024 r (records_bytes shape rows ++ more) (omega arith)
    ∙ ap Some (record-at shape rows more r (r * 1024) row refl there)

pub records-stand : (seed clusters cluster : ℕ) → IsShape (shape_of seed clusters cluster) → HasRecords (shape_of seed clusters cluster)
records-stand seed clusters cluster is = has-records (shape_of seed clusters cluster) is
