-- The areas take at most half of the volume, so the bad cluster lies in none of them.
use Rattle.std.proofs.Common.{◌≡◌, ◌≤◌, ◌<◌, ◌+◌, ◌-◌, ◌*◌, ◌/◌, ◌%◌, ◌==◌, ◌⊎◌, inl, inr, ℕ, Bool, true, false, cond, IsTrue, List, [], ◌∷◌, ◌++◌, take, drop, refl, arith}
use Rattle.std.proofs.Math.Nat.{mul-le-mul_right, lt-div-mul-add, div-le_of_le-mul, mul-add, mul_comm}
use Rattle.std.proofs.lemmas.Bool.Decides.{nat_tests}
use Rattle.ntfs_base.specs.Bytes.{clusters_for}
use Rattle.ntfs_make.specs.declared.shape.Shape.{Shape}
use Rattle.ntfs_make.specs.declared.table.Area.{Area}
use Rattle.ntfs_make.specs.declared.table.AreaRow.{AreaRow}
use Rattle.ntfs_make.specs.declared.table.ClusterCount.TheVariants.{ForBytes, ForBitmap, Exactly, OfFile}
use Rattle.ntfs_make.specs.Areas.{area_cluster_count, area_rows, areas_down, areas_of, areas_up}
use Rattle.ntfs_make.specs.Shape.{IsShape, bad_cluster, bitmap_size, is_cluster_size}
use Rattle.ntfs_make.proofs.AreaLemmas.{AllAreas, total}
use Rattle.ntfs_make.proofs.ShapeLemmas.{bitmap_size-le, bounds}

-- ---- how many clusters the areas take, each with a free one

clusters_for-most : (bytes c m : ℕ) → 1 ≤ m → m ≤ c → clusters_for bytes c ≤ bytes / m + 2
unfolding clusters_for
clusters_for-most bytes c m some within =
    let past : bytes < bytes / m * m + m = lt-div-mul-add (omega arith) in
    let more = mul-le-mul_right (bytes / m) within in
    let turned = mul_comm (bytes / m) m in
    let spread = mul-add c (bytes / m) 2 in
    div-le_of_le-mul c (omega arith)

length-file : (shape : Shape) (number : ℕ) → area_cluster_count shape (OfFile number) ≤ 4
unfolding area_cluster_count
length-file shape number = omega arith

length-clusters : (shape : Shape) (count : ℕ) → area_cluster_count shape (Exactly count) ≡ count
unfolding area_cluster_count
length-clusters shape count = refl

length-bytes : (shape : Shape) (bytes m : ℕ) → 1 ≤ m → m ≤ shape.cluster → area_cluster_count shape (ForBytes bytes) ≤ bytes / m + 2
unfolding area_cluster_count
length-bytes shape bytes m some within = clusters_for-most bytes shape.cluster m some within

length-bits : (shape : Shape) (m : ℕ) → 1 ≤ m → m ≤ shape.cluster → area_cluster_count shape ForBitmap ≤ bitmap_size shape.clusters / m + 2
unfolding area_cluster_count
length-bits shape m some within = clusters_for-most (bitmap_size shape.clusters) shape.cluster m some within

total-files : (shape : Shape) → total shape (drop 13 area_rows) ≤ 80
unfolding area_rows
total-files shape =
    let f0 = length-file shape 0 in let f1 = length-file shape 1 in let f2 = length-file shape 2 in let f3 = length-file shape 3 in
    let f4 = length-file shape 4 in let f5 = length-file shape 5 in let f6 = length-file shape 6 in let f7 = length-file shape 7 in
    let f8 = length-file shape 8 in let f9 = length-file shape 9 in let f10 = length-file shape 10 in let f11 = length-file shape 11 in
    let f12 = length-file shape 12 in let f13 = length-file shape 13 in let f14 = length-file shape 14 in let f15 = length-file shape 15 in
    omega arith

-- the areas but the files, by what is known of their lengths
total-areas : (shape : Shape) → total shape area_rows ≡
    area_cluster_count shape (ForBytes 8192) + 2 * area_cluster_count shape (ForBytes 32768) + 2 * area_cluster_count shape (ForBytes 4096) + area_cluster_count shape (ForBytes 65536)
    + area_cluster_count shape ForBitmap + area_cluster_count shape (ForBytes 131072) + 22 + total shape (drop 13 area_rows)
unfolding area_rows
total-areas shape =
    let c1 = length-clusters shape 1 in
    let c2 = length-clusters shape 2 in
    let c4 = length-clusters shape 4 in
    omega arith

larger : (c : ℕ) → IsTrue (is_cluster_size c) → c == 512 ≡ false → 1024 ≤ c
unfolding is_cluster_size
larger c is other = grind (arith, nat_tests)

room-for : (shape : Shape) (t : Bool) → shape.cluster == 512 ≡ t → IsShape shape → cond t 2048 1024 ≤ shape.clusters → 2 * total shape area_rows ≤ shape.clusters
room-for shape true size is least =
    let all = total-areas shape in
    let rest = total-files shape in
    let some = (bounds shape is).least in
    let bits = bitmap_size-le shape.clusters in
    let a = length-bytes shape 8192 512 (omega arith) some in
    let b = length-bytes shape 32768 512 (omega arith) some in
    let c = length-bytes shape 4096 512 (omega arith) some in
    let d = length-bytes shape 65536 512 (omega arith) some in
    let e = length-bytes shape 131072 512 (omega arith) some in
    let f = length-bits shape 512 (omega arith) some in
    omega (arith, all, rest, bits, a, b, c, d, e, f, least)
room-for shape false size is least =
    let all = total-areas shape in
    let rest = total-files shape in
    let bits = bitmap_size-le shape.clusters in
    let large : 1024 ≤ shape.cluster = larger shape.cluster is.cluster size in
    let a = length-bytes shape 8192 1024 (omega arith) large in
    let b = length-bytes shape 32768 1024 (omega arith) large in
    let c = length-bytes shape 4096 1024 (omega arith) large in
    let d = length-bytes shape 65536 1024 (omega arith) large in
    let e = length-bytes shape 131072 1024 (omega arith) large in
    let f = length-bits shape 1024 (omega arith) large in
    omega (arith, all, rest, bits, a, b, c, d, e, f, least)

half-free : (shape : Shape) → IsShape shape → 2 * total shape area_rows ≤ shape.clusters
half-free shape is = room-for shape (shape.cluster == 512) refl is is.least

-- ---- a cluster in the middle

-- the area ends below the cluster, or begins above it
abbrev pub Avoids : ℕ → Area → Type 0
Avoids k area = (area.start + area.length ≤ k) ⊎ (k < area.start)

up-avoids : (shape : Shape) (k start : ℕ) (rows : List AreaRow) → start + total shape rows ≤ k → AllAreas (Avoids k) (areas_up shape start rows)
up-avoids shape k start [] below = tt
up-avoids shape k start (row ∷ rows) below =
    (inl (omega arith), up-avoids shape k (start + (area_cluster_count shape row.length + 1)) rows (omega arith))

down-avoids : (shape : Shape) (k bound : ℕ) (rows : List AreaRow) → k + total shape rows < bound → AllAreas (Avoids k) (areas_down shape bound rows)
down-avoids shape k bound [] above = tt
down-avoids shape k bound (row ∷ rows) above =
    (inr (omega arith), down-avoids shape k (bound - (area_cluster_count shape row.length + 1)) rows (omega arith))

-- the first area goes up, the others down
first-then-down : (shape : Shape) (k : ℕ) (rows : List AreaRow) → total shape rows ≤ k → k + total shape rows ≤ shape.clusters
    → AllAreas (Avoids k) (areas_up shape 0 (take 1 rows) ++ areas_down shape (shape.clusters + 1) (drop 1 rows))
first-then-down shape k [] below above = tt
first-then-down shape k (row ∷ rows) below above =
    (inl (omega arith), down-avoids shape k (shape.clusters + 1) rows (omega arith))

either-avoids : (shape : Shape) (k : ℕ) (t : Bool) → total shape area_rows ≤ k → k + total shape area_rows ≤ shape.clusters
    → AllAreas (Avoids k) (cond t (areas_up shape 0 area_rows) (areas_up shape 0 (take 1 area_rows) ++ areas_down shape (shape.clusters + 1) (drop 1 area_rows)))
either-avoids shape k true below above = up-avoids shape k 0 area_rows (omega arith)
either-avoids shape k false below above = first-then-down shape k area_rows below above

pub bad-avoided : (shape : Shape) → IsShape shape → AllAreas (Avoids (bad_cluster shape.clusters)) (areas_of shape)
unfolding areas_of bad_cluster
bad-avoided shape is =
    let half = half-free shape is in
    either-avoids shape (bad_cluster shape.clusters) (shape.seed / 2 % 2 == 0) (omega (arith, half)) (omega (arith, half))
