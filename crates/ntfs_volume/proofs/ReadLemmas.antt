-- Where the bytes of record 0 lie.
use Rattle.std.proofs.Common.{◌≡◌, ◌≤◌, ◌<◌, ◌+◌, ◌*◌, ◌++◌, ℕ, zero, suc, List, take, drop, sym, ap, ◌∙◌, arith, slice_range, Some}
use Rattle.std.proofs.Math.Nat.{mul-le-mul_left}
use Rattle.std.proofs.Math.Seq.{take-add}
use Rattle.std.proofs.lemmas.List.{drop-drop}
use Rattle.ntfs_base.specs.Bytes.{cluster_at, clusters_for, stream}
use Rattle.ntfs_base.proofs.BytesLemmas.{take-drop-take}
use Rattle.ntfs_boot.specs.Geometry.{IsGood}
use Rattle.ntfs_boot.specs.declared.geometry.Geometry.{Geometry}
use Rattle.ntfs_runs.specs.Clusters.{row}
use Rattle.ntfs_volume.specs.MftMap.{head_clusters}
use Rattle.ntfs_volume.specs.StreamBytes.{clusters_in}
use Rattle.ntfs_volume.proofs.PieceLemmas.{read-from}

-- so many clusters have room for the bytes
pub room_for : (bytes c : ℕ) → 0 < c → bytes ≤ c * clusters_for bytes c
unfolding clusters_for
room_for bytes c some = omega arith

-- bytes that begin at a cluster end before the last cluster's end
pub ends-within : (first bytes c count : ℕ) → 0 < c → first + clusters_for bytes c ≤ count → first * c + bytes ≤ count * c
ends-within first bytes c count some within =
    let most : c * (first + clusters_for bytes c) ≤ c * count = mul-le-mul_left c within in
    let room = room_for bytes c some in
    omega (arith, most, room)

-- clusters in a row are the bytes that lie there
stream-row : (image : List ℕ) (c n k : ℕ) → stream (cluster_at image c) (clusters_in (row n (Some k))) ≡ take (n * c) (drop (k * c) image)
unfolding cluster_at clusters_in row
stream-row image c zero k = let none : 0 * c ≡ 0 = omega arith in sym (ap (λ m. take m (drop (k * c) image)) none)
stream-row image c (suc n) k =
    let next : k * c + c ≡ (k + 1) * c = omega arith in
    let more : suc n * c ≡ c + n * c = omega arith in
    ap (λ xs. take c (drop (k * c) image) ++ xs)
    (stream-row image c n (k + 1) ∙ ap (λ p. take (n * c) (drop p image)) (sym next) ∙ ap (take (n * c)) (sym (drop-drop c (k * c) image)))
    ∙ sym (ap (λ m. take m (drop (k * c) image)) more ∙ take-add c (n * c) (drop (k * c) image))

-- and record 0 is what was read at their first byte
pub head-read : (g : Geometry) (image into : List ℕ) (at len : ℕ) → IsGood g → into ≡ slice_range image at (at + len) → at ≡ g.mft * g.cluster → len ≡ g.record_size
    → into ≡ take g.record_size (stream (cluster_at image g.cluster) (head_clusters g))
head-read g image into at len good is place long =
    let some : 0 < g.cluster = omega (arith, good.least_cluster) in
    let room : g.record_size ≤ clusters_for g.record_size g.cluster * g.cluster = let most = room_for g.record_size g.cluster some in omega (arith, most) in
    read-from image into at (g.mft * g.cluster) len g.record_size is place long
    ∙ sym (take-drop-take 0 g.record_size (clusters_for g.record_size g.cluster * g.cluster) (drop (g.mft * g.cluster) image) (omega (arith, room)))
    ∙ sym (ap (take g.record_size) (stream-row image g.cluster (clusters_for g.record_size g.cluster) g.mft))
