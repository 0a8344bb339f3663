-- The bounds that follow from the ranges of a volume.
use Rattle.std.proofs.Common.{◌≡◌, ◌≤◌, ◌<◌, ◌+◌, ◌-◌, ◌*◌, ◌/◌, ◌%◌, ◌^◌, ◌==◌, ℕ, Bool, true, false, IsTrue, cond, sym, ap, ◌∙◌, arith}
use Rattle.std.proofs.Math.Nat.{mul-le-mul_left, mul-le-mul_right, div-le_self, mul_comm, mul_assoc, add-mul}
use Rattle.std.proofs.lemmas.Bool.Decides.{nat_tests}
use Rattle.ntfs_base.specs.Bytes.{clusters_for}
use Rattle.ntfs_make.specs.declared.shape.Shape.{Shape}
use Rattle.ntfs_make.specs.Shape.{IsShape, is_cluster_size, bitmap_size, bad_cluster, sectors}

pub record SizeBounds (c : ℕ) : Type 0 where
  pub least : 512 ≤ c
  pub most : c ≤ 65536
  pub sectors : 512 * (c / 512) ≡ c

size-bounds : (c : ℕ) → IsTrue (is_cluster_size c) → SizeBounds c
unfolding is_cluster_size
size-bounds c is = record { least = grind (arith, nat_tests); most = grind (arith, nat_tests); sectors = grind (arith, nat_tests) }

pub record Bounds (shape : Shape) : Type 0 where
  pub least : 512 ≤ shape.cluster
  pub most : shape.cluster ≤ 65536
  pub sectors : 512 * (shape.cluster / 512) ≡ shape.cluster
  pub clusters : 1024 ≤ shape.clusters
  pub limit : shape.clusters ≤ 1048576

at_least : (t : Bool) (n : ℕ) → cond t 2048 1024 ≤ n → 1024 ≤ n
at_least true n h = omega arith
at_least false n h = omega arith

pub bounds : (shape : Shape) → IsShape shape → Bounds shape
bounds shape is =
    let size = size-bounds shape.cluster is.cluster in
    record { least = size.least; most = size.most; sectors = size.sectors; clusters = at_least (shape.cluster == 512) shape.clusters is.least; limit = is.most }

-- a product of small numbers
pub times-fits : (a b : ℕ) → a < 2 ^ 40 → b ≤ 65536 → a * b < 2 ^ 56
times-fits a b small few = let most = mul-le-mul_left a few in omega arith

pub clusters_for-le : (bytes c : ℕ) → clusters_for bytes c ≤ bytes + (c - 1)
unfolding clusters_for
clusters_for-le bytes c = div-le_self (bytes + (c - 1)) c

pub bitmap_size-le : (n : ℕ) → bitmap_size n ≤ n + 64
unfolding bitmap_size
bitmap_size-le n = omega arith

pub bad_cluster-twice : (n : ℕ) → 2 * bad_cluster n ≤ n
unfolding bad_cluster
bad_cluster-twice n = omega arith

-- what stands in a part lies within the image
pub inside : (start count n c size : ℕ) → start + count ≤ n → size ≤ count * c → start * c + size ≤ (n + 1) * c
inside start count n c size within fits =
    let most = mul-le-mul_right c within in
    let area_rows = add-mul start count c in
    let next = add-mul n 1 c in
    omega arith

sectors-fit : (t : Bool) (n k c : ℕ) → 512 * k ≡ c → 1 ≤ k → (n * k + cond t (k - 1) 0) * 512 + 512 ≤ (n + 1) * c
sectors-fit true n k c is some =
    let bytes : n * c ≡ n * k * 512 = ap (λ m. n * m) (sym is ∙ mul_comm 512 k) ∙ sym (mul_assoc n k 512) in
    let next = add-mul n 1 c in
    omega arith
sectors-fit false n k c is some =
    let bytes : n * c ≡ n * k * 512 = ap (λ m. n * m) (sym is ∙ mul_comm 512 k) ∙ sym (mul_assoc n k 512) in
    let next = add-mul n 1 c in
    omega arith

-- the sectors that the boot sector tells end a sector before the image's end
pub sectors-end : (shape : Shape) → IsShape shape → sectors shape * 512 + 512 ≤ (shape.clusters + 1) * shape.cluster
unfolding sectors
sectors-end shape is =
    let b = bounds shape is in
    sectors-fit (shape.seed % 2 == 1) shape.clusters (shape.cluster / 512) shape.cluster b.sectors (omega arith)
