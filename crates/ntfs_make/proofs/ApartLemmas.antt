-- No two areas of the volume share a byte, nor does one with the copy of the boot sector.
use Rattle.std.proofs.Common.{◌≡◌, ◌≤◌, ◌+◌, ◌-◌, ◌*◌, ◌/◌, ◌%◌, ◌==◌, ◌⊎◌, inl, inr, ℕ, Bool, true, false, cond, List, [], ◌∷◌, ◌++◌, length, take, drop, map, sym, ap, ◌∙◌, arith}
use Rattle.std.proofs.Math.Nat.{mul-le-mul_right, mul_comm, mul_assoc, add-mul}
use Rattle.ntfs_make.specs.declared.shape.Shape.{Shape}
use Rattle.ntfs_make.specs.declared.table.AreaRow.{AreaRow}
use Rattle.ntfs_make.specs.declared.table.Area.{Area}
use Rattle.ntfs_make.specs.Shape.{IsShape, shape_of, sectors}
use Rattle.ntfs_make.specs.Areas.{area_rows, area_cluster_count, area_from, areas_up, areas_down, areas_of}
use Rattle.ntfs_make.specs.Streams.{area_bytes}
use Rattle.ntfs_base.specs.Writes.{IsApart, IsApartFrom, AreApart}
use Rattle.ntfs_make.specs.Volume.{area_write, copy_write, shape_writes, volume_writes, LiesInVolume}
use Rattle.ntfs_make.proofs.ShapeLemmas.{bounds}
use Rattle.ntfs_make.proofs.AreaLemmas.{AllAreas, all-lie, total, total-fits}
use Rattle.ntfs_make.proofs.LawLemmas.{area-fits}

-- areas of which one ends before the other begins
abbrev pub Split : Area → Area → Type 0
Split p q = (p.start + p.length ≤ q.start) ⊎ (q.start + q.length ≤ p.start)

abbrev pub AllSplit : List Area → Type 0
AllSplit [] = Unit {0}
AllSplit (p ∷ ps) = AllAreas (Split p) ps × AllSplit ps

-- areas that go up begin behind the place before
up-split : (shape : Shape) (p : Area) (start : ℕ) (ps : List AreaRow) → p.start + p.length ≤ start → AllAreas (Split p) (areas_up shape start ps)
up-split shape p start [] before = tt
up-split shape p start (q ∷ qs) before = (inl before, up-split shape p (start + (area_cluster_count shape q.length + 1)) qs (omega arith))

up-all : (shape : Shape) (start : ℕ) (ps : List AreaRow) → AllSplit (areas_up shape start ps)
up-all shape start [] = tt
up-all shape start (q ∷ qs) = (up-split shape (area_from shape start q) (start + (area_cluster_count shape q.length + 1)) qs (omega arith), up-all shape (start + (area_cluster_count shape q.length + 1)) qs)

-- areas that go down end before the place behind
down-split : (shape : Shape) (p : Area) (bound : ℕ) (ps : List AreaRow) → total shape ps ≤ bound → bound ≤ p.start → AllAreas (Split p) (areas_down shape bound ps)
down-split shape p bound [] room behind = tt
down-split shape p bound (q ∷ qs) room behind = (inr (omega arith), down-split shape p (bound - (area_cluster_count shape q.length + 1)) qs (omega arith) (omega arith))

down-all : (shape : Shape) (bound : ℕ) (ps : List AreaRow) → total shape ps ≤ bound → AllSplit (areas_down shape bound ps)
down-all shape bound [] room = tt
down-all shape bound (q ∷ qs) room = (down-split shape (area_from shape (bound - (area_cluster_count shape q.length + 1)) q) (bound - (area_cluster_count shape q.length + 1)) qs (omega arith) (omega arith), down-all shape (bound - (area_cluster_count shape q.length + 1)) qs (omega arith))

-- and begin behind what lies below all of them
down-above : (shape : Shape) (p : Area) (bound : ℕ) (ps : List AreaRow) → p.start + p.length + total shape ps ≤ bound → AllAreas (Split p) (areas_down shape bound ps)
down-above shape p bound [] room = tt
down-above shape p bound (q ∷ qs) room = (inl (omega arith), down-above shape p (bound - (area_cluster_count shape q.length + 1)) qs (omega arith))

first-then-down : (shape : Shape) (ps : List AreaRow) → total shape ps ≤ shape.clusters + 1 → AllSplit (areas_up shape 0 (take 1 ps) ++ areas_down shape (shape.clusters + 1) (drop 1 ps))
first-then-down shape [] room = tt
first-then-down shape (p ∷ ps) room = (down-above shape (area_from shape 0 p) (shape.clusters + 1) ps (omega arith), down-all shape (shape.clusters + 1) ps (omega arith))

either-split : (shape : Shape) → IsShape shape → (t : Bool) → AllSplit (cond t (areas_up shape 0 area_rows) (areas_up shape 0 (take 1 area_rows) ++ areas_down shape (shape.clusters + 1) (drop 1 area_rows)))
either-split shape is true = up-all shape 0 area_rows
either-split shape is false = first-then-down shape area_rows (total-fits shape is)

pub all-split : (shape : Shape) → IsShape shape → AllSplit (areas_of shape)
unfolding areas_of
all-split shape is = either-split shape is (shape.seed / 2 % 2 == 0)

-- bytes of clusters that are apart
bytes-before : (c start count next size : ℕ) → start + count ≤ next → size ≤ count * c → start * c + size ≤ next * c
bytes-before c start count next size before fits =
    let most = mul-le-mul_right c before in
    let both = add-mul start count c in
    omega arith

split-bytes : (shape : Shape) (p q : Area) → LiesInVolume shape p → LiesInVolume shape q → Split p q → IsApart (area_write shape p) (area_write shape q)
split-bytes shape p q here there (inl before) = inl (bytes-before shape.cluster p.start p.length q.start (length (area_bytes shape p)) before (area-fits shape p))
split-bytes shape p q here there (inr behind) = inr (bytes-before shape.cluster q.start q.length p.start (length (area_bytes shape q)) behind (area-fits shape q))

-- the copy lies behind all clusters
sectors-least : (t : Bool) (n k c : ℕ) → 512 * k ≡ c → n * c ≤ (n * k + cond t (k - 1) 0) * 512
sectors-least true n k c is =
    let bytes : n * c ≡ n * k * 512 = ap (λ m. n * m) (sym is ∙ mul_comm 512 k) ∙ sym (mul_assoc n k 512) in
    omega arith
sectors-least false n k c is =
    let bytes : n * c ≡ n * k * 512 = ap (λ m. n * m) (sym is ∙ mul_comm 512 k) ∙ sym (mul_assoc n k 512) in
    omega arith

pub sectors-behind : (shape : Shape) → IsShape shape → shape.clusters * shape.cluster ≤ sectors shape * 512
unfolding sectors
sectors-behind shape is = let b = bounds shape is in sectors-least (shape.seed % 2 == 1) shape.clusters (shape.cluster / 512) shape.cluster b.sectors

copy-apart : (shape : Shape) (p : Area) → IsShape shape → LiesInVolume shape p → IsApart (area_write shape p) (copy_write shape)
copy-apart shape p is here =
    let end = bytes-before shape.cluster p.start p.length shape.clusters (length (area_bytes shape p)) here.clusters (area-fits shape p) in
    let behind = sectors-behind shape is in
    inl (omega arith)

apart-from : (shape : Shape) (ps : List Area) (p : Area) → IsShape shape → LiesInVolume shape p → AllAreas (LiesInVolume shape) ps → AllAreas (Split p) ps → IsApartFrom (area_write shape p) (map (area_write shape) ps ++ copy_write shape ∷ [])
apart-from shape [] p is here within split = (copy-apart shape p is here, tt)
apart-from shape (q ∷ qs) p is here within split = (split-bytes shape p q here within.0 split.0, apart-from shape qs p is here within.1 split.1)

all-apart : (shape : Shape) (ps : List Area) → IsShape shape → AllAreas (LiesInVolume shape) ps → AllSplit ps → AreApart (map (area_write shape) ps ++ copy_write shape ∷ [])
all-apart shape [] is within split = (tt, tt)
all-apart shape (p ∷ ps) is within split = (apart-from shape ps p is within.0 within.1 split.0, all-apart shape ps is within.1 split.1)

pub areas-apart : (seed clusters cluster : ℕ) → IsShape (shape_of seed clusters cluster) → AreApart (volume_writes seed clusters cluster)
unfolding volume_writes shape_writes
areas-apart seed clusters cluster is =
    let shape = shape_of seed clusters cluster in
    all-apart shape (areas_of shape) is (all-lie shape is) (all-split shape is)
