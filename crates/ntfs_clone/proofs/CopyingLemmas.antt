-- What stands on the target of a raw copy, cluster by cluster.
use Rattle.std.proofs.Common.{◌≡◌, ◌≤◌, ◌<◌, ◌+◌, ◌-◌, ◌*◌, ◌⊎◌, inl, inr, ℕ, zero, suc, Bool, true, false, List, [], ◌∷◌, ◌++◌, length, take, drop, replicate, refl, sym, ap, ◌∙◌, arith, append_assoc, length-append, Result, Ok, Err, IsTrue}
use Rattle.std.proofs.Math.Seq.{take-add}
use Rattle.std.proofs.lemmas.List.{append-nil, drop-drop, length-replicate, replicate-append-replicate}
use Rattle.ntfs_base.specs.Bytes.{cluster_at, overwrite}
use Rattle.ntfs_base.specs.Growth.{SetLength, resize_of}
use Rattle.ntfs_base.specs.Image.{ImageState}
use Rattle.ntfs_base.specs.Writes.{Write, Wrote}
use Rattle.ntfs_base.proofs.BytesLemmas.{length-cluster_at}
use Rattle.ntfs_clone.specs.CloneOf.{Volume, clone_tail}
use Rattle.ntfs_clone.specs.Copying.{IsCopied, IsCopiedUpTo, IsPartCopy, nothing, front, whole, copied_cluster, copied_clusters, copied_up_to, copy_of}
use Rattle.ntfs_clone.specs.Writing.{Makes}
use Rattle.ntfs_clone.specs.declared.fault.CloneFault.{CloneFault}
use Rattle.ntfs_clone.proofs.LayoutLemmas.{resize-behind, resize-zeros}
use Rattle.ntfs_clone.proofs.WritingLemmas.{makes-wrote, told-length}

-- ---- clusters in a row

pub one-owned : (v : Volume) (k : ℕ) → v.owned k ≡ true → copied_cluster v k ≡ cluster_at v.image v.cluster k
one-owned v k is = rw is refl

pub one-free : (v : Volume) (k : ℕ) → v.owned k ≡ false → copied_cluster v k ≡ replicate v.cluster 0
one-free v k is = rw is refl

-- owned clusters have their bytes
pub copied-owned : (v : Volume) (from n : ℕ) → ((k : ℕ) → from ≤ k → k < from + n → v.owned k ≡ true)
    → copied_clusters v (from + n) ≡ copied_clusters v from ++ take (n * v.cluster) (drop (from * v.cluster) v.image)
unfolding cluster_at
copied-owned v from zero owned =
    let none : from + zero ≡ from = omega arith in
    let bytes : zero * v.cluster ≡ 0 = omega arith in
    ap (copied_clusters v) none ∙ sym (append-nil (copied_clusters v from)) ∙ ap (λ m. copied_clusters v from ++ take m (drop (from * v.cluster) v.image)) (sym bytes)
copied-owned v from (suc n) owned =
    let c = v.cluster in
    let here = drop (from * c) v.image in
    let next : from + suc n ≡ suc (from + n) = omega arith in
    let place : from * c + n * c ≡ (from + n) * c = omega arith in
    let more : n * c + c ≡ suc n * c = omega arith in
    let one : copied_cluster v (from + n) ≡ take c (drop (n * c) here) =
    one-owned v (from + n) (owned (from + n) (omega arith) (omega arith)) ∙ ap (λ p. take c (drop p v.image)) (sym place) ∙ ap (take c) (sym (drop-drop (n * c) (from * c) v.image)) in
    ap (copied_clusters v) next ∙ ap (λ xs. xs ++ copied_cluster v (from + n)) (copied-owned v from n (λ k least most. owned k least (omega arith)))
    ∙ append_assoc (copied_clusters v from) (take (n * c) here) (copied_cluster v (from + n))
    ∙ ap (λ xs. copied_clusters v from ++ xs) (ap (λ xs. take (n * c) here ++ xs) one ∙ sym (take-add (n * c) c here) ∙ ap (λ m. take m here) more)

-- others have zeros
pub copied-free : (v : Volume) (from n : ℕ) → ((k : ℕ) → from ≤ k → k < from + n → v.owned k ≡ false)
    → copied_clusters v (from + n) ≡ copied_clusters v from ++ replicate (n * v.cluster) 0
copied-free v from zero free =
    let none : from + zero ≡ from = omega arith in
    let bytes : zero * v.cluster ≡ 0 = omega arith in
    ap (copied_clusters v) none ∙ sym (append-nil (copied_clusters v from)) ∙ ap (λ m. copied_clusters v from ++ replicate m 0) (sym bytes)
copied-free v from (suc n) free =
    let c = v.cluster in
    let next : from + suc n ≡ suc (from + n) = omega arith in
    let more : n * c + c ≡ suc n * c = omega arith in
    ap (copied_clusters v) next ∙ ap (λ xs. xs ++ copied_cluster v (from + n)) (copied-free v from n (λ k least most. free k least (omega arith)))
    ∙ append_assoc (copied_clusters v from) (replicate (n * c) 0) (copied_cluster v (from + n))
    ∙ ap (λ xs. copied_clusters v from ++ xs)
    (ap (λ xs. replicate (n * c) 0 ++ xs) (one-free v (from + n) (free (from + n) (omega arith) (omega arith))) ∙ replicate-append-replicate (n * c) c 0 ∙ ap (λ m. replicate m 0) more)

pub part-below : (m n c : ℕ) → m < n → m * c + c ≤ n * c
part-below m n c below = grind arith

pub one-long : (v : Volume) (k : ℕ) (b : Bool) → v.owned k ≡ b → k * v.cluster + v.cluster ≤ length v.image → length (copied_cluster v k) ≡ v.cluster
one-long v k true is within = ap length (one-owned v k is) ∙ length-cluster_at v.image v.cluster k within
one-long v k false is within = ap length (one-free v k is) ∙ length-replicate v.cluster 0

-- each cluster of an image that has them all has its bytes
pub length-copied : (v : Volume) (n : ℕ) → n ≤ v.clusters → v.clusters * v.cluster ≤ length v.image → length (copied_clusters v n) ≡ n * v.cluster
length-copied v zero within held = omega arith
length-copied v (suc n) within held =
    let here = part-below n v.clusters v.cluster (omega arith) in
    let one = one-long v n (v.owned n) refl (omega (arith, here, held)) in
    let rest = length-copied v n (omega arith) held in
    let sum = length-append (copied_clusters v n) (copied_cluster v n) in
    omega (arith, one, rest, sum)

-- ---- the device

-- owned clusters are written behind those before them
pub up-to-row : (v : Volume) (from n : ℕ) (row content : List ℕ) → ((k : ℕ) → from ≤ k → k < from + n → v.owned k ≡ true) → from ≤ v.clusters → v.clusters * v.cluster ≤ length v.image
    → from * v.cluster ≤ v.device → row ≡ take (n * v.cluster) (drop (from * v.cluster) v.image) → content ≡ copied_up_to v from
    → overwrite (from * v.cluster) (take (v.device - from * v.cluster) row) content ≡ copied_up_to v (from + n)
unfolding copied_up_to
up-to-row v from n row content owned within held fits is laid =
    resize-behind v.device (from * v.cluster) (copied_clusters v from) row content (length-copied v from within held) fits laid
    ∙ ap (resize_of v.device) (ap (λ xs. copied_clusters v from ++ xs) is ∙ sym (copied-owned v from n owned))

-- the others are zeros anyway
pub up-to-free : (v : Volume) (from end : ℕ) → from ≤ end → ((k : ℕ) → from ≤ k → k < end → v.owned k ≡ false) → copied_up_to v from ≡ copied_up_to v end
unfolding copied_up_to
up-to-free v from end order free =
    let n = end - from in
    let sum : from + n ≡ end = omega arith in
    sym (ap (λ k. resize_of v.device (copied_clusters v k)) (sym sum) ∙ ap (resize_of v.device) (copied-free v from n (λ k least most. free k least (omega arith)))
    ∙ resize-zeros v.device (n * v.cluster) (copied_clusters v from))

-- the tail is written behind all clusters
pub up-to-tail : (v : Volume) (content : List ℕ) → v.clusters * v.cluster ≤ length v.image → v.clusters * v.cluster ≤ v.device → content ≡ copied_up_to v v.clusters
    → overwrite (v.clusters * v.cluster) (take (v.device - v.clusters * v.cluster) (clone_tail v)) content ≡ copy_of v
unfolding copied_up_to copy_of
up-to-tail v content held fits laid =
    resize-behind v.device (v.clusters * v.cluster) (copied_clusters v v.clusters) (clone_tail v) content (length-copied v v.clusters (omega arith) held) fits laid

-- ---- answers

pub up-to-makes : {T : Type 0} (v : Volume) (from end : ℕ) (asked old new : List ℕ) (result : Result T CloneFault) → from ≤ end → old ≡ copied_up_to v from → asked ≡ copied_up_to v end
    → Makes asked old result new → IsCopiedUpTo v end result new
up-to-makes v from end asked old new (Ok x) order before after makes = makes.whole ∙ after
up-to-makes v from end asked old new (Err e) order before after makes =
    elim makes.part [ inl left ↦ (from, order, left ∙ before) | inr made ↦ (end, omega arith, made ∙ after) ]

pub tail-makes : {T : Type 0} (v : Volume) (asked old new : List ℕ) (result : Result T CloneFault) → old ≡ copied_up_to v v.clusters → asked ≡ copy_of v → Makes asked old result new → IsCopied v result new
tail-makes v asked old new (Ok x) before after makes = makes.whole ∙ after
tail-makes v asked old new (Err e) before after makes = elim makes.part [ inl left ↦ front v.clusters (omega arith) (left ∙ before) | inr made ↦ whole (made ∙ after) ]

-- fewer clusters stand
pub up-to-fewer : (v : Volume) (end all : ℕ) (content : List ℕ) → end ≤ all → (k : ℕ) × (k ≤ end) × (content ≡ copied_up_to v k) → (k : ℕ) × (k ≤ all) × (content ≡ copied_up_to v k)
up-to-fewer v end all content within (k, most, is) = (k, omega arith, is)

pub copied-part : (v : Volume) (content : List ℕ) → (k : ℕ) × (k ≤ v.clusters) × (content ≡ copied_up_to v k) → IsPartCopy v content
copied-part v content (k, most, is) = front k most is

-- a row that was written
pub row-wrote : (v : Volume) (from n c device : ℕ) (row : List ℕ) (old new : ImageState) (result : Result (Unit {0}) CloneFault) → c ≡ v.cluster → device ≡ v.device
    → ((k : ℕ) → from ≤ k → k < from + n → v.owned k ≡ true) → from ≤ v.clusters → v.clusters * v.cluster ≤ length v.image → from * v.cluster ≤ v.device
    → row ≡ take (n * v.cluster) (drop (from * v.cluster) v.image) → IsTrue old.is_told → old.content ≡ copied_up_to v from
    → Wrote (record { place = from * c; bytes = take (device - from * c) row } ∷ []) old result new → IsCopiedUpTo v (from + n) result new.content
row-wrote v from n c device row old new result same length_is owned within held fits is told laid wrote =
    let place : from * c ≡ from * v.cluster = ap (λ m. from * m) same in
    let text = take (v.device - from * v.cluster) row in
    let cut : device - from * c ≡ v.device - from * v.cluster = omega (arith, place, length_is) in
    let w : Write = record { place = from * c; bytes = take (device - from * c) row } in
    up-to-makes v from (from + n) (overwrite (from * c) text old.content) old.content new.content result (omega arith) laid
    (ap (λ p. overwrite p text old.content) place ∙ up-to-row v from n row old.content owned within held fits is laid)
    (makes-wrote w text old new result wrote told (ap (λ m. take m row) cut))

-- the tail that was written
pub tail-wrote : (v : Volume) (c device : ℕ) (tail : List ℕ) (old new : ImageState) (result : Result (Unit {0}) CloneFault) → c ≡ v.cluster → device ≡ v.device
    → v.clusters * v.cluster ≤ length v.image → v.clusters * v.cluster ≤ v.device → tail ≡ clone_tail v → IsTrue old.is_told → old.content ≡ copied_up_to v v.clusters
    → Wrote (record { place = v.clusters * c; bytes = take (device - v.clusters * c) tail } ∷ []) old result new → IsCopied v result new.content
tail-wrote v c device tail old new result same length_is held fits is told laid wrote =
    let place : v.clusters * c ≡ v.clusters * v.cluster = ap (λ m. v.clusters * m) same in
    let text = take (v.device - v.clusters * v.cluster) (clone_tail v) in
    let cut : device - v.clusters * c ≡ v.device - v.clusters * v.cluster = omega (arith, place, length_is) in
    let w : Write = record { place = v.clusters * c; bytes = take (device - v.clusters * c) tail } in
    tail-makes v (overwrite (v.clusters * c) text old.content) old.content new.content result laid
    (ap (λ p. overwrite p text old.content) place ∙ up-to-tail v old.content held fits laid)
    (makes-wrote w text old new result wrote told (ap (λ m. take m tail) cut ∙ ap (take (v.device - v.clusters * v.cluster)) is))

-- an empty file that gets the device's length
pub makes-device : {T E : Type 0} (v : Volume) (device : ℕ) (old new : ImageState) (result : Result T E) → v.device ≡ device → SetLength device old result new → IsTrue old.is_told → old.content ≡ []
    → Makes (copied_up_to v 0) [] result new.content
unfolding copied_up_to
makes-device v device old new (Ok x) same is told empty = record {
  whole = ap (λ (s : ImageState). s.content) is.whole ∙ told-length device old told ∙ ap (resize_of device) empty ∙ ap (λ n. resize_of n []) (sym same);
  part = tt;
}
makes-device v device old new (Err e) same is told empty = record {
  whole = tt;
  part = elim is.part [
    | inl left ↦ inl (ap (λ (s : ImageState). s.content) left ∙ empty)
    | inr asked ↦ inr (ap (λ (s : ImageState). s.content) asked ∙ told-length device old told ∙ ap (resize_of device) empty ∙ ap (λ n. resize_of n []) (sym same))
  ];
}

pub part-makes : (v : Volume) (new : List ℕ) → (new ≡ []) ⊎ (new ≡ copied_up_to v 0) → IsPartCopy v new
part-makes v new (inl left) = nothing left
part-makes v new (inr made) = front 0 (omega arith) made
