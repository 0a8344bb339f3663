-- Clusters that are free.
use Rattle.std.proofs.Common.{IsTrue, IsFalse, not, ◌≡◌, ◌≢◌, ◌≤◌, ◌<◌, ◌+◌, ◌==◌, ℕ, Bool, true, false, nat_le, refl, sym, ap, ◌∙◌, arith}
use Rattle.std.proofs.lemmas.Bool.Decides.{nat_tests}
use Rattle.ntfs_make.specs.declared.shape.Shape.{Shape}
use Rattle.ntfs_make.specs.Areas.{areas_of}
use Rattle.ntfs_make.specs.Shape.{bad_cluster}
use Rattle.ntfs_make.specs.Streams.{has_area, bitmap_bit, byte_of}

-- a cluster that is free
free-bit : (shape : Shape) (cluster : ℕ) → cluster < shape.clusters → cluster ≢ bad_cluster shape.clusters → has_area (areas_of shape) cluster ≡ false → bitmap_bit shape cluster ≡ 0
unfolding bitmap_bit
free-bit shape cluster below other free =
    let inside : nat_le shape.clusters cluster ≡ false = grind (arith, nat_tests) in
    let sound : cluster == bad_cluster shape.clusters ≡ false = grind (arith, nat_tests) in
    rw (inside, sound, free) refl

-- eight free clusters
pub free-byte : (shape : Shape) (first : ℕ) → first + 8 ≤ shape.clusters → ((i : ℕ) → i < 8 → first + i ≢ bad_cluster shape.clusters) → ((i : ℕ) → i < 8 → has_area (areas_of shape) (first + i) ≡ false) → byte_of shape first ≡ 0
unfolding byte_of
free-byte shape first below other free =
    let here : first + 0 ≡ first = omega arith in
    let at = λ (i : ℕ) (h : i < 8). free-bit shape (first + i) (omega arith) (other i h) (free i h) in
    let b0 = ap (bitmap_bit shape) (sym here) ∙ at 0 (omega arith) in
    let b1 = at 1 (omega arith) in
    let b2 = at 2 (omega arith) in
    let b3 = at 3 (omega arith) in
    let b4 = at 4 (omega arith) in
    let b5 = at 5 (omega arith) in
    let b6 = at 6 (omega arith) in
    let b7 = at 7 (omega arith) in
    omega arith

pub is-false : (t : Bool) → IsTrue (not t) → IsFalse t
is-false true is = absurd cc
is-false false is = refl
