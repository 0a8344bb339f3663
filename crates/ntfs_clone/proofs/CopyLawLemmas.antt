-- A raw copy is what the clone image restores, and what stands of it after a fault is a front of it.
use Rattle.std.proofs.Common.{◌≡◌, ◌+◌, ◌-◌, ◌*◌, ◌⊎◌, inl, inr, ℕ, zero, suc, Bool, true, false, List, [], ◌∷◌, ◌++◌, length, take, replicate, get_or, slice_index, refl, sym, ap, ◌∙◌, arith, nat_eq, append_assoc, if◌then◌else◌}
use Rattle.std.proofs.lemmas.Bool.{cases_lt}
use Rattle.std.proofs.lemmas.Bool.Decides.{eqb_tells}
use Rattle.std.proofs.lemmas.List.{append-nil, replicate-append-replicate, places}
use Rattle.ntfs_base.specs.Bytes.{cluster_at}
use Rattle.ntfs_base.specs.Growth.{resize_of}
use Rattle.ntfs_clone.specs.CloneOf.{Volume, cluster_commands, saved_commands, saved_header, clone_tail, widened}
use Rattle.ntfs_clone.specs.Commands.{Command, gap, cluster, commands_content, covered}
use Rattle.ntfs_clone.specs.Copying.{IsPartCopy, nothing, front, whole, copied_cluster, copied_clusters, copied_up_to, copy_of}
use Rattle.ntfs_clone.specs.Restored.{laid_out, restored}
use Rattle.ntfs_clone.proofs.WalkLemmas.{commands-append}
use Rattle.ntfs_clone.proofs.WritingLemmas.{content-more}

-- ---- what the commands put

once : (c : ℕ) → replicate {A = ℕ} (1 * c) 0 ≡ replicate c 0
once c = let one : 1 * c ≡ c = omega arith in ap (λ n. replicate n 0) one

content-widened : (c : ℕ) (commands : List Command) → commands_content c (widened commands) ≡ replicate c 0 ++ commands_content c commands
content-widened c [] = ap (λ xs. xs ++ []) (once c)
content-widened c (cluster bytes ∷ commands) = ap (λ xs. xs ++ (bytes ++ commands_content c commands)) (once c)
content-widened c (gap count ∷ commands) =
    let sum : (count + 1) * c ≡ c + count * c = omega arith in
    ap (λ n. replicate n 0 ++ commands_content c commands) sum ∙ ap (λ xs. xs ++ commands_content c commands) (sym (replicate-append-replicate c (count * c) 0))
    ∙ append_assoc (replicate c 0) (replicate (count * c) 0) (commands_content c commands)

content-one : (v : Volume) (from n : ℕ) (b : Bool) → v.owned from ≡ b
    → commands_content v.cluster (cluster_commands v from (suc n) []) ≡ copied_cluster v from ++ commands_content v.cluster (cluster_commands v (from + 1) n [])
content-one v from n true is = rw is refl
content-one v from n false is = rw is (content-widened v.cluster (cluster_commands v (from + 1) n []))

copied-content : (v : Volume) (from n : ℕ) → copied_clusters v (from + n) ≡ copied_clusters v from ++ commands_content v.cluster (cluster_commands v from n [])
copied-content v from zero = let none : from + zero ≡ from = omega arith in ap (copied_clusters v) none ∙ sym (append-nil (copied_clusters v from))
copied-content v from (suc n) =
    let sum : from + suc n ≡ (from + 1) + n = omega arith in
    let one : from + 1 ≡ suc from = omega arith in
    let behind = commands_content v.cluster (cluster_commands v (from + 1) n []) in
    ap (copied_clusters v) sum ∙ copied-content v (from + 1) n ∙ ap (λ k. copied_clusters v k ++ behind) one
    ∙ append_assoc (copied_clusters v from) (copied_cluster v from) behind
    ∙ ap (λ xs. copied_clusters v from ++ xs) (sym (content-one v from n (v.owned from) refl))

pub saved-content : (v : Volume) → commands_content v.cluster (saved_commands v) ≡ copied_clusters v v.clusters ++ clone_tail v
saved-content v =
    let none : 0 + v.clusters ≡ v.clusters = omega arith in
    ap (commands_content v.cluster) (commands-append v 0 v.clusters (clone_tail v))
    ∙ content-more v.cluster (cluster_commands v 0 v.clusters []) (cluster (clone_tail v))
    ∙ ap (λ xs. xs ++ clone_tail v) (sym (ap (copied_clusters v) (sym none) ∙ copied-content v 0 v.clusters))

-- ---- how many clusters they cover

covered-widened : (commands : List Command) → covered (widened commands) ≡ 1 + covered commands
covered-widened [] = refl
covered-widened (gap count ∷ commands) = omega arith
covered-widened (cluster bytes ∷ commands) = refl

covered-from : (v : Volume) (from n : ℕ) (behind : List Command) → covered (cluster_commands v from n behind) ≡ n + covered behind
covered-from v from zero behind = omega arith
covered-from v from (suc n) behind = two (v.owned from) (covered-from v (from + 1) n behind)
  where
    two : (b : Bool) → covered (cluster_commands v (from + 1) n behind) ≡ n + covered behind
        → covered (if b then cluster (cluster_at v.image v.cluster from) ∷ cluster_commands v (from + 1) n behind else widened (cluster_commands v (from + 1) n behind)) ≡ suc n + covered behind
    two true rest = omega (arith, rest)
    two false rest = covered-widened (cluster_commands v (from + 1) n behind) ∙ omega (arith, rest)

pub saved-covered : (v : Volume) → covered (saved_commands v) ≡ v.clusters + 1
saved-covered v = covered-from v 0 v.clusters (cluster (clone_tail v) ∷ [])

more-eqb : (n : ℕ) → nat_eq (n + 1) n ≡ false
more-eqb n = elim (eqb_tells (n + 1) n) [ inl same ↦ (let e = same.1 in absurd (omega (arith, e))) | inr other ↦ other.0 ]

-- the copy is what the clone image restores
pub copy-restored : (v : Volume) → copy_of v ≡ restored (saved_header v) (saved_commands v)
unfolding copy_of restored laid_out saved_header
copy-restored v =
    let count : nat_eq (covered (saved_commands v)) v.clusters ≡ false = ap (λ n. nat_eq n v.clusters) (saved-covered v) ∙ more-eqb v.clusters in
    rw count (ap (resize_of v.device) (sym (saved-content v)))

-- ---- fronts

-- a byte of the device with a front is zero, or that of the device with all
resized-byte : (d i : ℕ) (xs ys : List ℕ) → (get_or (resize_of d xs) i 0 ≡ 0) ⊎ (get_or (resize_of d xs) i 0 ≡ get_or (resize_of d (xs ++ ys)) i 0)
unfolding resize_of
resized-byte d i xs ys =
    elim (cases_lt i (length (take d xs))) [
      | inl below ↦ inr (grind (arith, places))
      | inr past ↦ inl (grind (arith, places))
    ]

pub part-byte : (v : Volume) (content : List ℕ) (i : ℕ) → IsPartCopy v content → (slice_index content i ≡ 0) ⊎ (slice_index content i ≡ slice_index (copy_of v) i)
unfolding copied_up_to copy_of
part-byte v content i (nothing none) = inl (ap (λ xs. get_or xs i 0) none)
part-byte v content i (whole is) = inr (ap (λ xs. get_or xs i 0) is)
part-byte v content i (front k within is) =
    let sum : k + (v.clusters - k) ≡ v.clusters = omega arith in
    let rest = commands_content v.cluster (cluster_commands v k (v.clusters - k) []) in
    let all : copied_clusters v v.clusters ++ clone_tail v ≡ copied_clusters v k ++ (rest ++ clone_tail v) =
    ap (λ xs. xs ++ clone_tail v) (ap (copied_clusters v) (sym sum) ∙ copied-content v k (v.clusters - k)) ∙ append_assoc (copied_clusters v k) rest (clone_tail v) in
    let byte = resized-byte v.device i (copied_clusters v k) (rest ++ clone_tail v) in
    elim byte [
      | inl none ↦ inl (ap (λ xs. get_or xs i 0) is ∙ none)
      | inr same ↦ inr (ap (λ xs. get_or xs i 0) is ∙ same ∙ ap (λ xs. get_or (resize_of v.device xs) i 0) (sym all))
    ]
