-- What stands at each place of a raw copy.
use Rattle.std.proofs.Common.{◌≡◌, ◌≤◌, ◌<◌, ◌+◌, ◌-◌, ◌*◌, inl, inr, ℕ, zero, suc, List, ◌++◌, length, take, drop, replicate, get_or, refl, sym, ap, ◌∙◌, arith, min, length-append}
use Rattle.std.proofs.Math.Seq.{drop-append_seam}
use Rattle.std.proofs.lemmas.Bool.{cases_lt}
use Rattle.std.proofs.lemmas.List.{get_or-append_right, length-replicate, length-take, places, take_all}
use Rattle.ntfs_base.specs.Bytes.{cluster_at}
use Rattle.ntfs_base.specs.Growth.{resize_of}
use Rattle.ntfs_base.proofs.BytesLemmas.{take-drop-append, take-drop-take}
use Rattle.ntfs_clone.specs.CloneOf.{Volume, clone_tail}
use Rattle.ntfs_clone.specs.Copying.{copied_cluster, copied_clusters, copy_of}
use Rattle.ntfs_clone.proofs.CopyingLemmas.{length-copied, one-long, part-below}

-- ---- contents of another length

pub length-resized : (d : ℕ) (xs : List ℕ) → length (resize_of d xs) ≡ d
unfolding resize_of
length-resized d xs = omega (arith, length-append (take d xs) (replicate (d - length xs) 0), length-take d xs, length-replicate {A = ℕ} (d - length xs) 0)

-- a piece that lies within both lengths stays
piece-resized : (at n d : ℕ) (xs : List ℕ) → at + n ≤ d → at + n ≤ length xs → take n (drop at (resize_of d xs)) ≡ take n (drop at xs)
unfolding resize_of
piece-resized at n d xs fits within =
    let long : length (take d xs) ≡ min d (length xs) = length-take d xs in
    take-drop-append at n (take d xs) (replicate (d - length xs) 0) (omega (arith, long, fits, within)) ∙ take-drop-take at n d xs fits

-- a byte below the length stays
byte-resized : (d i : ℕ) (xs : List ℕ) → i < d → get_or (resize_of d xs) i 0 ≡ get_or xs i 0
unfolding resize_of
byte-resized d i xs below =
    elim (cases_lt i (length xs)) [
      | inl within ↦ grind (arith, places)
      | inr past ↦ grind (arith, places)
    ]

-- ---- clusters

-- of so many clusters in a row, each is at its place
cluster-copied : (v : Volume) (n k : ℕ) → k < n → n ≤ v.clusters → v.clusters * v.cluster ≤ length v.image
    → take v.cluster (drop (k * v.cluster) (copied_clusters v n)) ≡ copied_cluster v k
cluster-copied v zero k below within held = absurd (omega (arith, below))
cluster-copied v (suc n) k below within held =
    let c = v.cluster in
    let front = copied_clusters v n in
    let one = copied_cluster v n in
    let long = length-copied v n (omega (arith, within)) held in
    elim (cases_lt k n) [
      | inl before ↦ (let fits = part-below k n c before in take-drop-append (k * c) c front one (omega (arith, fits, long)) ∙ cluster-copied v n k before (omega (arith, within)) held)
      | inr past ↦ (
          let last : k ≡ n = omega (arith, past, below) in
          let room = part-below n v.clusters c within in
          let size = one-long v n (v.owned n) refl (omega (arith, room, held)) in
          let here : drop (k * c) (front ++ one) ≡ one = ap (λ j. drop (j * c) (front ++ one)) last ∙ ap (λ m. drop m (front ++ one)) (sym long) ∙ drop-append_seam front one in
          ap (take c) here ∙ take_all c one (omega (arith, size)) ∙ ap (copied_cluster v) (sym last)
          )
    ]

pub cluster-placed : (v : Volume) (k : ℕ) → k < v.clusters → v.clusters * v.cluster ≤ length v.image → v.clusters * v.cluster ≤ v.device
    → cluster_at (copy_of v) v.cluster k ≡ copied_cluster v k
unfolding cluster_at copy_of
cluster-placed v k below held fits =
    let c = v.cluster in
    let front = copied_clusters v v.clusters in
    let long = length-copied v v.clusters (omega arith) held in
    let all = length-append front (clone_tail v) in
    let room = part-below k v.clusters c below in
    piece-resized (k * c) c v.device (front ++ clone_tail v) (omega (arith, room, fits)) (omega (arith, room, long, all))
    ∙ take-drop-append (k * c) c front (clone_tail v) (omega (arith, room, long)) ∙ cluster-copied v v.clusters k below (omega arith) held

-- ---- the tail

pub tail-placed : (v : Volume) (i : ℕ) → v.clusters * v.cluster ≤ i → i < v.device → v.device ≤ v.clusters * v.cluster + v.cluster → v.clusters * v.cluster ≤ length v.image
    → get_or (copy_of v) i 0 ≡ get_or v.image i 0
unfolding copy_of
tail-placed v i least below most held =
    let place = v.clusters * v.cluster in
    let front = copied_clusters v v.clusters in
    let long = length-copied v v.clusters (omega arith) held in
    byte-resized v.device i (front ++ clone_tail v) below ∙ get_or-append_right front (clone_tail v) place i 0 long least
    ∙ byte-resized v.cluster (i - place) (take (v.device - place) (drop place v.image)) (omega (arith, least, below, most))
    ∙ grind (arith, places)
