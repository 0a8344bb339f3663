-- Where the areas of $Boot, $MFT and its mirror stand, and how many clusters they have.
use Rattle.std.proofs.Common.{◌≡◌, ◌≤◌, ◌+◌, ◌-◌, ◌*◌, ◌/◌, ◌%◌, ◌==◌, ℕ, zero, suc, Bool, true, false, cond, List, [], ◌∷◌, ◌++◌, take, drop, refl, ap, arith}
use Rattle.std.specs.Prelude.{slice_get, unwrap_or, Some}
use Rattle.ntfs_base.specs.Bytes.{clusters_for}
use Rattle.ntfs_make.specs.declared.shape.Shape.{Shape}
use Rattle.ntfs_make.specs.declared.table.Area.{Area}
use Rattle.ntfs_make.specs.declared.table.AreaRow.{AreaRow}
use Rattle.ntfs_make.specs.Shape.{IsShape}
use Rattle.ntfs_make.specs.Areas.{area_rows, area_from, areas_up, areas_down, areas_of, area_at, no_area, area_cluster_count}
use Rattle.ntfs_make.proofs.ShapeLemmas.{bounds}
use Rattle.ntfs_make.proofs.AreaLemmas.{covers}

-- ---- the area of a row of the table

abbrev IsFrom : Shape → Area → AreaRow → Type 0
IsFrom shape area row = (start : ℕ) × (area ≡ area_from shape start row)

up-row : (shape : Shape) (start : ℕ) (rows : List AreaRow) (n : ℕ) (row : AreaRow) → slice_get rows n ≡ Some row
    → IsFrom shape (unwrap_or (slice_get (areas_up shape start rows) n) no_area) row
up-row shape start [] n row is = absurd cc
up-row shape start (first ∷ rows) zero row is = (start, cc)
up-row shape start (first ∷ rows) (suc n) row is =
    up-row shape (start + (area_cluster_count shape first.length + 1)) rows n row is

down-row : (shape : Shape) (bound : ℕ) (rows : List AreaRow) (n : ℕ) (row : AreaRow) → slice_get rows n ≡ Some row
    → IsFrom shape (unwrap_or (slice_get (areas_down shape bound rows) n) no_area) row
down-row shape bound [] n row is = absurd cc
down-row shape bound (first ∷ rows) zero row is = (bound - (area_cluster_count shape first.length + 1), cc)
down-row shape bound (first ∷ rows) (suc n) row is =
    down-row shape (bound - (area_cluster_count shape first.length + 1)) rows n row is

first-row : (shape : Shape) (bound : ℕ) (rows : List AreaRow) (n : ℕ) (row : AreaRow) → slice_get rows n ≡ Some row
    → IsFrom shape (unwrap_or (slice_get (areas_up shape 0 (take 1 rows) ++ areas_down shape bound (drop 1 rows)) n)
    no_area) row
first-row shape bound [] n row is = absurd cc
first-row shape bound (first ∷ rows) zero row is = (0, cc)
first-row shape bound (first ∷ rows) (suc n) row is = down-row shape bound rows n row is

either-row : (shape : Shape) (t : Bool) (n : ℕ) (row : AreaRow) → slice_get area_rows n ≡ Some row
    → IsFrom shape (unwrap_or (slice_get (cond t (areas_up shape 0 area_rows)
    (areas_up shape 0 (take 1 area_rows) ++ areas_down shape (shape.clusters + 1) (drop 1 area_rows))) n) no_area) row
either-row shape true n row is = up-row shape 0 area_rows n row is
either-row shape false n row is = first-row shape (shape.clusters + 1) area_rows n row is

area-length : (shape : Shape) (n : ℕ) (row : AreaRow) → slice_get area_rows n ≡ Some row
    → (area_at shape n).length ≡ area_cluster_count shape row.length
unfolding area_at areas_of
area-length shape n row is =
    let from = either-row shape (shape.seed / 2 % 2 == 0) n row is in
    ap (λ (area : Area). area.length) from.1

-- ---- the areas of $Boot, $MFT and its mirror

pub boot-start : (shape : Shape) → (area_at shape 0).start ≡ 0
unfolding area_at areas_of area_rows
boot-start shape = of (shape.seed / 2 % 2 == 0)
  where
    of : (t : Bool) → (unwrap_or (slice_get (cond t (areas_up shape 0 area_rows)
        (areas_up shape 0 (take 1 area_rows) ++ areas_down shape (shape.clusters + 1) (drop 1 area_rows))) 0)
        no_area).start ≡ 0
    of true = refl
    of false = refl

pub table-length : (shape : Shape) → (area_at shape 1).length ≡ clusters_for 32768 shape.cluster
unfolding area_rows area_cluster_count
table-length shape = area-length shape 1 _ refl

pub mirror-length : (shape : Shape) → (area_at shape 2).length ≡ clusters_for 4096 shape.cluster
unfolding area_rows area_cluster_count
mirror-length shape = area-length shape 2 _ refl

pub behind-length : (shape : Shape) → (area_at shape 7).length ≡ clusters_for 32768 shape.cluster
unfolding area_rows area_cluster_count
behind-length shape = area-length shape 7 _ refl

-- each area of $MFT has room for half of its records
pub record Rooms (shape : Shape) : Type 0 where
  pub front : 32768 ≤ (area_at shape 1).length * shape.cluster
  pub behind : 32768 ≤ (area_at shape 7).length * shape.cluster

pub rooms : (shape : Shape) → IsShape shape → Rooms shape
rooms shape is =
    let b = bounds shape is in
    let room = covers 32768 shape.cluster (omega arith) in
    record {
      front = rw (table-length shape) room;
      behind = rw (behind-length shape) room;
    }

-- clusters that have room for more bytes are as many or more
pub clusters-more : (few many c : ℕ) → 1 ≤ c → few ≤ many → clusters_for few c ≤ clusters_for many c
unfolding clusters_for
clusters-more few many c some fewer = grind arith
