-- The volume that is cloned: its device, its clusters in a row, and its tail.
use Rattle.std.proofs.Common.{◌≡◌, ◌≤◌, ◌<◌, ◌+◌, ◌-◌, ◌*◌, ◌/◌, ◌^◌, ℕ, zero, suc, Bool, true, List, [], ◌∷◌, ◌++◌, length, take, drop, replicate, min, refl, sym, ap, ◌∙◌, append_assoc, arith, length-append, if◌then◌else◌}
use Rattle.std.proofs.Math.Seq.{take-append_seam}
use Rattle.std.proofs.Math.Nat.{div-mul-le_self, lt-div-mul-add, mul-le-mul_left}
use Rattle.std.proofs.lemmas.List.{drop-drop, length-take, length-drop, take_all, take_min}
use Rattle.std.specs.Prelude.{slice_range}
use Rattle.byteorder.specs.Endian.{little_bytes}
use Rattle.ntfs_base.specs.Bytes.{cluster_at}
use Rattle.ntfs_base.specs.Growth.{resize_of}
use Rattle.ntfs_base.proofs.BytesLemmas.{take-drop-take}
use Rattle.ntfs_bitmap.specs.ClusterSet.{Clusters, count_where}
use Rattle.ntfs_boot.specs.declared.geometry.Geometry.{Geometry}
use Rattle.ntfs_boot.specs.Geometry.{IsCluster, IsGood, is_sector_count}
use Rattle.ntfs_clone.specs.CloneOf.{device_of, clone_header_bytes, owned_count, clone_tail, volume_of}
use Rattle.ntfs_clone.specs.Header.{clone_magic, clone_version}
use Rattle.ntfs_clone.specs.declared.header.CloneHeader.{CloneHeader}
use Rattle.ntfs_clone.specs.Saving.{spelled_row}

-- ---- the device

some-sectors : (n : ℕ) → is_sector_count n ≡ true → 0 < n
unfolding is_sector_count
some-sectors zero is = absurd cc
some-sectors (suc n) is = omega arith

product-least : (q n s k : ℕ) → q * n ≤ k → q * (s * n) ≤ (k + 1) * s
product-least q n s k below = let all : s * (q * n) ≤ s * k = mul-le-mul_left s below in omega (arith, all)

product-most : (q n s k : ℕ) → k + 1 ≤ q * n + n → (k + 1) * s ≤ q * (s * n) + s * n
product-most q n s k below = let all : s * (k + 1) ≤ s * (q * n + n) = mul-le-mul_left s below in omega (arith, all)

-- the sizes of a geometry that a boot sector tells, whatever its other fields are
pub record IsSized (g : Geometry) : Type 0 where
  pub sectors_per_cluster : ℕ
  pub cluster : IsCluster g.cluster g.sector sectors_per_cluster
  pub clusters : g.clusters ≡ g.sectors / sectors_per_cluster
  pub some_clusters : 0 < g.clusters
  pub most_clusters : g.clusters < 2 ^ 32

pub good-sized : (g : Geometry) → IsGood g → IsSized g
good-sized g good = record {
  sectors_per_cluster = good.sectors_per_cluster;
  cluster = good.cluster;
  clusters = good.clusters;
  some_clusters = good.some_clusters;
  most_clusters = good.most_clusters;
}

pub sized-least : (g : Geometry) → IsSized g → g.clusters * g.cluster ≤ device_of g
sized-least g sized =
    rw (sized.cluster.product, sized.clusters)
    (product-least (g.sectors / sized.sectors_per_cluster) sized.sectors_per_cluster g.sector g.sectors (div-mul-le_self g.sectors sized.sectors_per_cluster))

pub sized-most : (g : Geometry) → IsSized g → device_of g ≤ g.clusters * g.cluster + g.cluster
sized-most g sized =
    let some = some-sectors sized.sectors_per_cluster sized.cluster.sector_count in
    let next = lt-div-mul-add {a = g.sectors} some in
    rw (sized.cluster.product, sized.clusters)
    (product-most (g.sectors / sized.sectors_per_cluster) sized.sectors_per_cluster g.sector g.sectors (omega (arith, next)))

pub device-least : (g : Geometry) → IsGood g → g.clusters * g.cluster ≤ device_of g
device-least g good = sized-least g (good-sized g good)

pub device-most : (g : Geometry) → IsGood g → device_of g ≤ g.clusters * g.cluster + g.cluster
device-most g good = sized-most g (good-sized g good)

-- ---- how many clusters are owned

count-split : (owned : ℕ → Bool) (from n : ℕ) → count_where owned (from + n) ≡ count_where owned from + owned_count owned from n
count-split owned from zero = let none : from + zero ≡ from = omega arith in ap (count_where owned) none ∙ omega arith
count-split owned from (suc n) =
    let sum : from + suc n ≡ (from + 1) + n = omega arith in
    let one : from + 1 ≡ suc from = omega arith in
    let rest = count-split owned (from + 1) n in
    let first : count_where owned (from + 1) ≡ count_where owned from + (if owned from then 1 else 0) = ap (count_where owned) one in
    ap (count_where owned) sum ∙ rest ∙ omega (arith, first)

pub count-owned : (owned : ℕ → Bool) (n : ℕ) → count_where owned n ≡ owned_count owned 0 n
count-owned owned n =
    let sum : 0 + n ≡ n = omega arith in
    let none : 0 + owned_count owned 0 n ≡ owned_count owned 0 n = omega arith in
    ap (count_where owned) (sym sum) ∙ count-split owned 0 n ∙ none

-- ---- clusters in a row

pub cluster-below : (from n clusters c : ℕ) → from + n ≤ clusters → from * c + n * c ≤ clusters * c
cluster-below from n clusters c within = let all : c * (from + n) ≤ c * clusters = mul-le-mul_left c within in omega (arith, all)

part-below : (m n c : ℕ) → m < n → m * c + c ≤ n * c
part-below m n c below = grind arith

-- one cluster more is appended
pub row-next : (row before so_far one all piece : List ℕ) (c i : ℕ) → so_far ≡ before ++ spelled_row row c 0 i → one ≡ so_far ++ 1 ∷ [] → piece ≡ take c (drop (i * c) row)
    → all ≡ one ++ piece → all ≡ before ++ spelled_row row c 0 (i + 1)
unfolding cluster_at
row-next row before so_far one all piece c i is first part last =
    let none : 0 + i ≡ i = omega arith in
    let next : i + 1 ≡ suc i = omega arith in
    last ∙ ap (λ xs. one ++ xs) part ∙ ap (λ xs. xs ++ take c (drop (i * c) row)) first ∙ append_assoc so_far (1 ∷ []) (take c (drop (i * c) row))
    ∙ ap (λ xs. xs ++ (1 ∷ take c (drop (i * c) row))) is ∙ append_assoc before (spelled_row row c 0 i) (1 ∷ take c (drop (i * c) row))
    ∙ ap (λ k. before ++ (spelled_row row c 0 i ++ (1 ∷ take c (drop (k * c) row)))) (sym none)
    ∙ ap (λ k. before ++ spelled_row row c 0 k) (sym next)

-- a row that was read is spelled as it is in the image
row-part : (image : List ℕ) (c from n m : ℕ) → m ≤ n → spelled_row (take (n * c) (drop (from * c) image)) c 0 m ≡ spelled_row image c from m
unfolding cluster_at
row-part image c from n zero within = refl
row-part image c from n (suc m) within =
    let none : 0 + m ≡ m = omega arith in
    let place : from * c + m * c ≡ (from + m) * c = omega arith in
    let here = part-below m n c within in
    let cut : take c (drop ((0 + m) * c) (take (n * c) (drop (from * c) image))) ≡ take c (drop ((from + m) * c) image) =
    ap (λ k. take c (drop (k * c) (take (n * c) (drop (from * c) image)))) none ∙ take-drop-take (m * c) c (n * c) (drop (from * c) image) here
    ∙ ap (take c) (drop-drop (m * c) (from * c) image ∙ ap (λ p. drop p image) place) in
    ap (λ xs. xs ++ (1 ∷ take c (drop ((0 + m) * c) (take (n * c) (drop (from * c) image))))) (row-part image c from n m (omega arith))
    ∙ ap (λ xs. spelled_row image c from m ++ (1 ∷ xs)) cut

pub row-read : (image : List ℕ) (c from n : ℕ) → spelled_row (take (n * c) (drop (from * c) image)) c 0 n ≡ spelled_row image c from n
row-read image c from n = row-part image c from n n (omega arith)

-- ---- the tail

-- so many bytes were read, and what stood behind them was cleared
pub tail-cleared : (into behind : List ℕ) (count c : ℕ) → length into ≡ count → length (into ++ behind) ≡ c
    → take count (into ++ behind) ++ replicate (length (into ++ behind) - count) 0 ≡ into ++ replicate (c - count) 0
tail-cleared into behind count c long whole =
    ap (λ xs. xs ++ replicate (length (into ++ behind) - count) 0) (ap (λ n. take n (into ++ behind)) (sym long) ∙ take-append_seam into behind)
    ∙ ap (λ n. into ++ replicate (n - count) 0) whole

pub tail-read : (image into : List ℕ) (c place device count : ℕ) → into ≡ slice_range image place (place + count)
    → count ≡ min (device - place) (length image - place) → device - place ≤ c → into ++ replicate (c - count) 0 ≡ resize_of c (take (device - place) (drop place image))
unfolding resize_of
tail-read image into c place device count is least most =
    let behind = drop place image in
    let part : place + count - place ≡ count = omega arith in
    let left : length behind ≡ length image - place = length-drop place image in
    let count_is : min (device - place) (length behind) ≡ count = ap (min (device - place)) left ∙ sym least in
    let read : into ≡ take (device - place) behind = is ∙ ap (λ n. take n behind) (part ∙ sym count_is) ∙ take_min (device - place) behind in
    let long : length (take (device - place) behind) ≡ count = length-take (device - place) behind ∙ count_is in
    ap (λ xs. xs ++ replicate (c - count) 0) (read ∙ sym (take_all c (take (device - place) behind) (omega (arith, long, most, least))))
    ∙ ap (λ n. take c (take (device - place) behind) ++ replicate (c - n) 0) (sym long)

-- the tail as it was read and cleared
pub tail-whole : (g : Geometry) (owned : Clusters) (image into tail after : List ℕ) (c end device : ℕ) → c ≡ g.cluster → device ≡ device_of g → length tail ≡ g.cluster
    → end ≡ min device (length image) → g.clusters * g.cluster ≤ device → device ≤ g.clusters * g.cluster + g.cluster → g.clusters * g.cluster ≤ length image
    → length into ≡ length (take (end - g.clusters * c) tail) → into ≡ slice_range image (g.clusters * c) (g.clusters * c + length (take (end - g.clusters * c) tail))
    → after ≡ take (end - g.clusters * c) (into ++ drop (end - g.clusters * c) tail) ++ replicate (length (into ++ drop (end - g.clusters * c) tail) - (end - g.clusters * c)) 0
    → after ≡ clone_tail (volume_of g owned image)
tail-whole g owned image into tail after c end device same device_is long end_is least most held long_into read cleared =
    let count = end - g.clusters * c in
    let place = g.clusters * g.cluster in
    let at : g.clusters * c ≡ place = ap (λ n. g.clusters * n) same in
    let few : count ≤ g.cluster = omega (arith, at, end_is, most) in
    let asked : length (take count tail) ≡ count = length-take count tail ∙ omega (arith, few, long) in
    let whole : length (into ++ drop count tail) ≡ g.cluster =
    omega (arith, length-append into (drop count tail), length-drop count tail, long_into, asked, long, few) in
    let here : into ≡ slice_range image place (place + count) = read ∙ ap (λ n. slice_range image n (n + length (take count tail))) at ∙ ap (λ n. slice_range image place (place + n)) asked in
    let least_is : count ≡ min (device_of g - place) (length image - place) = omega (arith, at, end_is, device_is, least, held) in
    cleared ∙ tail-cleared into (drop count tail) count g.cluster (long_into ∙ asked) whole
    ∙ tail-read image into g.cluster place (device_of g) count here least_is (omega (arith, most, device_is))

-- ---- the header

pub header-spelled : (h : CloneHeader) (w w1 w2 w3 w4 w5 w6 w7 b1 b2 b3 b4 b5 : List ℕ) → w1 ≡ w ++ (clone_magic ++ clone_version) → b1 ≡ little_bytes 4 h.cluster → w2 ≡ w1 ++ b1
    → b2 ≡ little_bytes 8 h.device → w3 ≡ w2 ++ b2 → b3 ≡ little_bytes 8 h.clusters → w4 ≡ w3 ++ b3 → b4 ≡ little_bytes 8 h.in_use → w5 ≡ w4 ++ b4
    → b5 ≡ little_bytes 4 h.offset → w6 ≡ w5 ++ b5 → w7 ≡ w6 ++ replicate 6 0 → w7 ≡ w ++ clone_header_bytes h
unfolding clone_header_bytes
header-spelled h w w1 w2 w3 w4 w5 w6 w7 b1 b2 b3 b4 b5 e1 f1 e2 f2 e3 f3 e4 f4 e5 f5 e6 e7 =
    e7 ∙ rw (e6, e5, e4, e3, e2, e1, f1, f2, f3, f4, f5)
    (spread-out w clone_magic clone_version (little_bytes 4 h.cluster) (little_bytes 8 h.device) (little_bytes 8 h.clusters) (little_bytes 8 h.in_use) (little_bytes 4 h.offset) (replicate 6 0))
  where
    spread-out : (w a b c d e f k l : List ℕ) → ((((((w ++ (a ++ b)) ++ c) ++ d) ++ e) ++ f) ++ k) ++ l ≡ w ++ (a ++ (b ++ (c ++ (d ++ (e ++ (f ++ (k ++ l)))))))
    spread-out w a b c d e f k l = simp append_assoc refl
