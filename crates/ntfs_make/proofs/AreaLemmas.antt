-- The areas lie within the clusters of the volume.
use Rattle.std.proofs.Common.{◌≡◌, ◌≤◌, ◌<◌, ◌+◌, ◌-◌, ◌*◌, ◌/◌, ◌%◌, ◌^◌, ◌==◌, ◌&&◌, ℕ, zero, suc, Bool, true, false, cond, IsTrue, List, [], ◌∷◌, ◌++◌, length, take, drop, get_or, nat_le, refl, ap, arith}
use Rattle.std.specs.Prelude.{slice_get, unwrap_or}
use Rattle.std.specs.List.{list_all}
use Rattle.std.proofs.Math.Nat.{mul-le-mul_right, lt-div-mul-add, div-le_of_le-mul, mul-add, mul_comm}
use Rattle.std.proofs.lemmas.Bool.{leb-true}
use Rattle.std.proofs.lemmas.Bool.Decides.{nat_tests}
use Rattle.ntfs_base.specs.Bytes.{clusters_for}
use Rattle.ntfs_make.specs.declared.shape.Shape.{Shape}
use Rattle.ntfs_make.specs.declared.table.AreaRow.{AreaRow}
use Rattle.ntfs_make.specs.declared.table.Area.{Area}
use Rattle.ntfs_make.specs.declared.table.ClusterCount.{ClusterCount}
use Rattle.ntfs_make.specs.declared.table.ClusterCount.TheVariants.{ForBytes, ForBitmap, Exactly, OfFile}
use Rattle.ntfs_make.specs.Shape.{IsShape, bitmap_size, is_cluster_size}
use Rattle.ntfs_make.specs.Areas.{area_rows, area_cluster_count, areas_up, areas_down, areas_of, area_at, no_area}
use Rattle.ntfs_make.specs.Volume.{LiesInVolume}
use Rattle.ntfs_make.proofs.ShapeLemmas.{bounds, bitmap_size-le, clusters_for-le}

-- the clusters of bytes have room for them
pub covers : (bytes c : ℕ) → 1 ≤ c → bytes ≤ clusters_for bytes c * c
unfolding clusters_for
covers bytes c some =
    let past : bytes + (c - 1) < (bytes + (c - 1)) / c * c + c = lt-div-mul-add (omega arith) in
    omega arith

-- the clusters of bytes are few
clusters_for-most : (bytes c m : ℕ) → 1 ≤ m → m ≤ c → clusters_for bytes c ≤ bytes / m + 2
unfolding clusters_for
clusters_for-most bytes c m some within =
    let past : bytes < bytes / m * m + m = lt-div-mul-add (omega arith) in
    let more = mul-le-mul_right (bytes / m) within in
    let turned = mul_comm (bytes / m) m in
    let spread = mul-add c (bytes / m) 2 in
    div-le_of_le-mul c (omega arith)

-- ---- how many clusters all areas take

-- how many clusters areas take, each with a free one
abbrev pub total : Shape → List AreaRow → ℕ
total shape [] = 0
total shape (row ∷ rows) = (area_cluster_count shape row.length + 1) + total shape rows

length-file : (shape : Shape) (number : ℕ) → area_cluster_count shape (OfFile number) ≤ 4
unfolding area_cluster_count
length-file shape number = omega arith

length-clusters : (shape : Shape) (count : ℕ) → area_cluster_count shape (Exactly count) ≡ count
unfolding area_cluster_count
length-clusters shape count = refl

length-bytes : (shape : Shape) (bytes m : ℕ) → 1 ≤ m → m ≤ shape.cluster → area_cluster_count shape (ForBytes bytes) ≤ bytes / m + 2
unfolding area_cluster_count
length-bytes shape bytes m some within = clusters_for-most bytes shape.cluster m some within

length-bits : (shape : Shape) (m : ℕ) → 1 ≤ m → m ≤ shape.cluster → area_cluster_count shape ForBitmap ≤ bitmap_size shape.clusters / m + 2
unfolding area_cluster_count
length-bits shape m some within = clusters_for-most (bitmap_size shape.clusters) shape.cluster m some within

total-files : (shape : Shape) → total shape (drop 13 area_rows) ≤ 80
unfolding area_rows
total-files shape =
    let f0 = length-file shape 0 in let f1 = length-file shape 1 in let f2 = length-file shape 2 in let f3 = length-file shape 3 in
    let f4 = length-file shape 4 in let f5 = length-file shape 5 in let f6 = length-file shape 6 in let f7 = length-file shape 7 in
    let f8 = length-file shape 8 in let f9 = length-file shape 9 in let f10 = length-file shape 10 in let f11 = length-file shape 11 in
    let f12 = length-file shape 12 in let f13 = length-file shape 13 in let f14 = length-file shape 14 in let f15 = length-file shape 15 in
    omega arith

-- the areas but the files, by what is known of their lengths
total-areas : (shape : Shape) → total shape area_rows ≡
    area_cluster_count shape (ForBytes 8192) + 2 * area_cluster_count shape (ForBytes 32768) + 2 * area_cluster_count shape (ForBytes 4096) + area_cluster_count shape (ForBytes 65536)
    + area_cluster_count shape ForBitmap + area_cluster_count shape (ForBytes 131072) + 22 + total shape (drop 13 area_rows)
unfolding area_rows
total-areas shape =
    let c1 = length-clusters shape 1 in
    let c2 = length-clusters shape 2 in
    let c4 = length-clusters shape 4 in
    omega arith

record SizeBoundsAre (shape : Shape) : Type 0 where
  least : 512 ≤ shape.cluster
  other : shape.cluster == 512 ≡ false → 1024 ≤ shape.cluster

larger : (c : ℕ) → IsTrue (is_cluster_size c) → c == 512 ≡ false → 1024 ≤ c
unfolding is_cluster_size
larger c is other = grind (arith, nat_tests)

room-for : (shape : Shape) (t : Bool) → shape.cluster == 512 ≡ t → SizeBoundsAre shape → cond t 2048 1024 ≤ shape.clusters → total shape area_rows ≤ shape.clusters + 1
room-for shape true is size least =
    let all = total-areas shape in
    let rest = total-files shape in
    let some = size.least in
    let bits = bitmap_size-le shape.clusters in
    let a = length-bytes shape 8192 512 (omega arith) size.least in
    let b = length-bytes shape 32768 512 (omega arith) size.least in
    let c = length-bytes shape 4096 512 (omega arith) size.least in
    let d = length-bytes shape 65536 512 (omega arith) size.least in
    let e = length-bytes shape 131072 512 (omega arith) size.least in
    let f = length-bits shape 512 (omega arith) size.least in
    omega arith
room-for shape false is size least =
    let all = total-areas shape in
    let rest = total-files shape in
    let bits = bitmap_size-le shape.clusters in
    let large : 1024 ≤ shape.cluster = size.other is in
    let a = length-bytes shape 8192 1024 (omega arith) large in
    let b = length-bytes shape 32768 1024 (omega arith) large in
    let c = length-bytes shape 4096 1024 (omega arith) large in
    let d = length-bytes shape 65536 1024 (omega arith) large in
    let e = length-bytes shape 131072 1024 (omega arith) large in
    let f = length-bits shape 1024 (omega arith) large in
    omega arith

pub total-fits : (shape : Shape) → IsShape shape → total shape area_rows ≤ shape.clusters + 1
total-fits shape is =
    let b = bounds shape is in
    room-for shape (shape.cluster == 512) refl (record { least = b.least; other = larger shape.cluster is.cluster }) is.least

total-first : (shape : Shape) → total shape (take 1 area_rows) ≤ total shape area_rows
unfolding area_rows
total-first shape = omega arith

total-others : (shape : Shape) → total shape (drop 1 area_rows) ≤ total shape area_rows
unfolding area_rows
total-others shape = omega arith

-- ---- the first VCNs

-- a count that is small whatever the volume
abbrev is_small : ClusterCount → Bool
is_small (ForBytes bytes) = nat_le bytes 65536
is_small ForBitmap = true
is_small (Exactly count) = nat_le count 65536
is_small (OfFile number) = true

small-count : (shape : Shape) (count : ClusterCount) → IsShape shape → is_small count ≡ true → area_cluster_count shape count ≤ 2 ^ 33
unfolding area_cluster_count
small-count shape (ForBytes bytes) is small =
    let b = bounds shape is in
    let most = clusters_for-le bytes shape.cluster in
    let few = leb-true bytes 65536 small in
    omega arith
small-count shape ForBitmap is small =
    let b = bounds shape is in
    let most = clusters_for-le (bitmap_size shape.clusters) shape.cluster in
    let few = bitmap_size-le shape.clusters in
    omega arith
small-count shape (Exactly count) is small = let few = leb-true count 65536 small in omega arith
small-count shape (OfFile number) is small = omega arith

abbrev pub has_small_first : AreaRow → Bool
has_small_first row = is_small row.first_vcn

small-firsts : list_all has_small_first area_rows ≡ true
unfolding area_rows
small-firsts = refl

first-small : list_all has_small_first (take 1 area_rows) ≡ true
unfolding area_rows
first-small = refl

others-small : list_all has_small_first (drop 1 area_rows) ≡ true
unfolding area_rows
others-small = refl

and-both : (a b : Bool) → a && b ≡ true → (a ≡ true) × (b ≡ true)
and-both true b is = (refl, is)
and-both false b is = absurd cc

-- ---- all areas

abbrev pub AllAreas : (Area → Type 0) → List Area → Type 0
AllAreas P [] = Unit {0}
AllAreas P (area ∷ areas) = P area × AllAreas P areas

up-lies : (shape : Shape) (start : ℕ) (rows : List AreaRow) → IsShape shape → list_all has_small_first rows ≡ true → start + total shape rows ≤ shape.clusters + 1 → AllAreas (LiesInVolume shape) (areas_up shape start rows)
up-lies shape start [] is small room = tt
up-lies shape start (row ∷ rows) is small room =
    let b = bounds shape is in
    let both = and-both (has_small_first row) (list_all has_small_first rows) small in
    let first = small-count shape row.first_vcn is both.0 in (
      record { small = omega arith; first = omega arith; clusters = omega arith },
      up-lies shape (start + (area_cluster_count shape row.length + 1)) rows is both.1 (omega arith),
    )

down-lies : (shape : Shape) (bound : ℕ) (rows : List AreaRow) → IsShape shape → list_all has_small_first rows ≡ true → total shape rows ≤ bound → bound ≤ shape.clusters + 1 → AllAreas (LiesInVolume shape) (areas_down shape bound rows)
down-lies shape bound [] is small room most = tt
down-lies shape bound (row ∷ rows) is small room most =
    let b = bounds shape is in
    let both = and-both (has_small_first row) (list_all has_small_first rows) small in
    let first = small-count shape row.first_vcn is both.0 in (
      record { small = omega arith; first = omega arith; clusters = omega arith },
      down-lies shape (bound - (area_cluster_count shape row.length + 1)) rows is both.1 (omega arith) (omega arith),
    )

areas-append : (P : Area → Type 0) (front rest : List Area) → AllAreas P front → AllAreas P rest → AllAreas P (front ++ rest)
areas-append P [] rest first then = then
areas-append P (area ∷ areas) rest first then = (first.0, areas-append P areas rest first.1 then)

either-lies : (shape : Shape) → IsShape shape → (t : Bool) → AllAreas (LiesInVolume shape) (cond t (areas_up shape 0 area_rows) (areas_up shape 0 (take 1 area_rows) ++ areas_down shape (shape.clusters + 1) (drop 1 area_rows)))
either-lies shape is true =
    let room = total-fits shape is in
    up-lies shape 0 area_rows is small-firsts (omega arith)
either-lies shape is false =
    let room = total-fits shape is in
    let first = total-first shape in
    let others = total-others shape in
    areas-append (LiesInVolume shape) (areas_up shape 0 (take 1 area_rows)) (areas_down shape (shape.clusters + 1) (drop 1 area_rows))
    (up-lies shape 0 (take 1 area_rows) is first-small (omega arith))
    (down-lies shape (shape.clusters + 1) (drop 1 area_rows) is others-small (omega arith) (omega arith))

pub all-lie : (shape : Shape) → IsShape shape → AllAreas (LiesInVolume shape) (areas_of shape)
unfolding areas_of
all-lie shape is = either-lies shape is (shape.seed / 2 % 2 == 0)

pub area-in : (P : Area → Type 0) (areas : List Area) (i : ℕ) (d : Area) → AllAreas P areas → i < length areas → P (get_or areas i d)
area-in P [] i d all within = absurd (omega arith)
area-in P (first ∷ areas) zero d all within = all.0
area-in P (first ∷ areas) (suc i) d all within = area-in P areas i d all.1 (omega arith)

-- ---- an area by its number

pub record IsSmall (area : Area) : Type 0 where
  pub start : area.start ≤ 2 ^ 40
  pub length : area.length < 2 ^ 33

small-of : (shape : Shape) (area : Area) → shape.clusters ≤ 1048576 → LiesInVolume shape area → IsSmall area
small-of shape area few lies = let ends = lies.clusters in record { start = omega arith; length = lies.small }

small-in : (shape : Shape) (areas : List Area) (number : ℕ) (none : Area) → shape.clusters ≤ 1048576 → IsSmall none → AllAreas (LiesInVolume shape) areas → IsSmall (unwrap_or (slice_get areas number) none)
small-in shape [] number none few small lie = small
small-in shape (area ∷ areas) zero none few small lie = small-of shape area few lie.0
small-in shape (area ∷ areas) (suc number) none few small lie = small-in shape areas number none few small lie.1

pub small-area : (shape : Shape) (number : ℕ) → IsShape shape → IsSmall (area_at shape number)
unfolding area_at
small-area shape number is =
    let b = bounds shape is in
    small-in shape (areas_of shape) number no_area b.limit (record { start = omega arith; length = omega arith }) (all-lie shape is)

pub area-of : (shape : Shape) (areas : List Area) (number : ℕ) → areas ≡ areas_of shape → unwrap_or (slice_get areas number) no_area ≡ area_at shape number
unfolding area_at
area-of shape areas number are = ap (λ (all : List Area). unwrap_or (slice_get all number) no_area) are
