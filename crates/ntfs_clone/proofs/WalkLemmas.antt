-- The commands of a volume, stretch by stretch.
use Rattle.std.proofs.Common.{◌≡◌, ◌≤◌, ◌<◌, ◌+◌, ◌-◌, ◌*◌, ℕ, zero, suc, Bool, true, false, List, [], ◌∷◌, ◌++◌, length, take, drop, refl, sym, ap, ◌∙◌, arith, append_assoc, if◌then◌else◌}
use Rattle.std.proofs.Math.Dec.{eqb-suc-zero}
use Rattle.std.proofs.lemmas.List.{append-nil, take_all}
use Rattle.ntfs_base.specs.Bytes.{cluster_at}
use Rattle.ntfs_clone.specs.CloneOf.{Volume, clone_of, cluster_commands, clone_header_bytes, saved_commands, saved_header, clone_tail, widened}
use Rattle.ntfs_clone.specs.Commands.{Command, gap, cluster, command_bytes, commands_bytes}
use Rattle.ntfs_clone.specs.Saving.{IsOwnedStretch, spelled_gap, spelled_row}
use Rattle.ntfs_clone.specs.declared.stretch.Stretch.{Stretch}

pub bytes-append : (a b : List Command) → commands_bytes (a ++ b) ≡ commands_bytes a ++ commands_bytes b
bytes-append [] b = refl
bytes-append (x ∷ xs) b = ap (λ bytes. command_bytes x ++ bytes) (bytes-append xs b) ∙ sym (append_assoc (command_bytes x) (commands_bytes xs) (commands_bytes b))

-- ---- what stands behind the clusters

widened-append : (commands : List Command) (bytes : List ℕ) → widened (commands ++ cluster bytes ∷ []) ≡ widened commands ++ cluster bytes ∷ []
widened-append [] bytes = refl
widened-append (gap count ∷ commands) bytes = refl
widened-append (cluster first ∷ commands) bytes = refl

-- a cluster behind all others
pub commands-append : (v : Volume) (from n : ℕ) (bytes : List ℕ) → cluster_commands v from n (cluster bytes ∷ []) ≡ cluster_commands v from n [] ++ cluster bytes ∷ []
commands-append v from zero bytes = refl
commands-append v from (suc n) bytes = two (v.owned from) (commands-append v (from + 1) n bytes)
  where
    two : (b : Bool) → cluster_commands v (from + 1) n (cluster bytes ∷ []) ≡ cluster_commands v (from + 1) n [] ++ cluster bytes ∷ [] → (if b then cluster (cluster_at v.image v.cluster from) ∷ cluster_commands v (from + 1) n (cluster bytes ∷ []) else widened (cluster_commands v (from + 1) n (cluster bytes ∷ [])))
        ≡ (if b then cluster (cluster_at v.image v.cluster from) ∷ cluster_commands v (from + 1) n [] else widened (cluster_commands v (from + 1) n [])) ++ cluster bytes ∷ []
    two true behind = ap (λ xs. cluster (cluster_at v.image v.cluster from) ∷ xs) behind
    two false behind = ap widened behind ∙ widened-append (cluster_commands v (from + 1) n []) bytes

-- ---- owned clusters

one-owned : (v : Volume) (from n : ℕ) → v.owned from ≡ true → cluster_commands v from (suc n) [] ≡ cluster (cluster_at v.image v.cluster from) ∷ cluster_commands v (from + 1) n []
one-owned v from n is = rw is refl

pub row-owned : (v : Volume) (from n rest : ℕ) → ((k : ℕ) → from ≤ k → k < from + n → v.owned k ≡ true)
    → commands_bytes (cluster_commands v from (n + rest) []) ≡ spelled_row v.image v.cluster from n ++ commands_bytes (cluster_commands v (from + n) rest [])
row-owned v from zero rest owned =
    let none : zero + rest ≡ rest = omega arith in
    let here : from + zero ≡ from = omega arith in
    ap (λ k. commands_bytes (cluster_commands v from k [])) none ∙ sym (ap (λ k. commands_bytes (cluster_commands v k rest [])) here)
row-owned v from (suc n) rest owned =
    let sum : suc n + rest ≡ n + suc rest = omega arith in
    let next : from + n + 1 ≡ from + suc n = omega arith in
    let first = row-owned v from n (suc rest) (λ k least most. owned k least (omega arith)) in
    let one = one-owned v (from + n) rest (owned (from + n) (omega arith) (omega arith)) in
    let bytes = cluster_at v.image v.cluster (from + n) in
    ap (λ k. commands_bytes (cluster_commands v from k [])) sum ∙ first
    ∙ ap (λ xs. spelled_row v.image v.cluster from n ++ commands_bytes xs) (one ∙ ap (λ k. cluster bytes ∷ cluster_commands v k rest []) next)
    ∙ sym (append_assoc (spelled_row v.image v.cluster from n) (1 ∷ bytes) (commands_bytes (cluster_commands v (from + suc n) rest [])))

-- ---- others

-- commands that don't begin with a gap
data IsApart : List Command → Type 0 where
  none : IsApart []
  owned : (bytes : List ℕ) (commands : List Command) → IsApart (cluster bytes ∷ commands)

one-free : (v : Volume) (from n : ℕ) → v.owned from ≡ false → cluster_commands v from (suc n) [] ≡ widened (cluster_commands v (from + 1) n [])
one-free v from n is = rw is refl

first-widened : (commands : List Command) → IsApart commands → widened commands ≡ gap 1 ∷ commands
first-widened [] is = refl
first-widened (cluster bytes ∷ commands) is = refl
first-widened (gap count ∷ commands) is = elim is [ ]

row-free : (v : Volume) (from n rest : ℕ) → ((k : ℕ) → from ≤ k → k < from + suc n → v.owned k ≡ false) → IsApart (cluster_commands v (from + suc n) rest [])
    → cluster_commands v from (suc n + rest) [] ≡ gap (suc n) ∷ cluster_commands v (from + suc n) rest []
row-free v from zero rest free apart =
    let sum : suc zero + rest ≡ suc rest = omega arith in
    let next : from + 1 ≡ from + suc zero = omega arith in
    ap (λ k. cluster_commands v from k []) sum ∙ one-free v from rest (free from (omega arith) (omega arith)) ∙ ap (λ k. widened (cluster_commands v k rest [])) next
    ∙ first-widened (cluster_commands v (from + suc zero) rest []) apart
row-free v from (suc n) rest free apart =
    let sum : suc (suc n) + rest ≡ suc (suc n + rest) = omega arith in
    let next : from + 1 + suc n ≡ from + suc (suc n) = omega arith in
    let count : suc n + 1 ≡ suc (suc n) = omega arith in
    let behind = row-free v (from + 1) n rest (λ k least most. free k (omega arith) (omega arith)) (rw next apart) in
    ap (λ k. cluster_commands v from k []) sum ∙ one-free v from (suc n + rest) (free from (omega arith) (omega arith)) ∙ ap widened behind
    ∙ ap (λ k. gap k ∷ cluster_commands v (from + 1 + suc n) rest []) count ∙ ap (λ k. gap (suc (suc n)) ∷ cluster_commands v k rest []) next

gap-free : (v : Volume) (from n rest : ℕ) → ((k : ℕ) → from ≤ k → k < from + n → v.owned k ≡ false) → IsApart (cluster_commands v (from + n) rest [])
    → commands_bytes (cluster_commands v from (n + rest) []) ≡ spelled_gap n ++ commands_bytes (cluster_commands v (from + n) rest [])
gap-free v from zero rest free apart =
    let none : zero + rest ≡ rest = omega arith in
    let here : from + zero ≡ from = omega arith in
    ap (λ k. commands_bytes (cluster_commands v from k [])) none ∙ sym (ap (λ k. commands_bytes (cluster_commands v k rest [])) here)
gap-free v from (suc n) rest free apart =
    let behind = commands_bytes (cluster_commands v (from + suc n) rest []) in
    ap commands_bytes (row-free v from n rest free apart)
    ∙ sym (ap (λ (b : Bool). (if b then [] else command_bytes (gap (suc n))) ++ behind) (eqb-suc-zero n))

-- behind a stretch an owned cluster follows, or none
apart-behind : (v : Volume) (at rest : ℕ) → (0 < rest → v.owned at ≡ true) → IsApart (cluster_commands v at rest [])
apart-behind v at zero next = none
apart-behind v at (suc rest) next = rw (next (omega arith)) (owned (cluster_at v.image v.cluster at) (cluster_commands v (at + 1) rest []))

-- ---- a stretch

pub stretch-commands : (v : Volume) (from : ℕ) (s : Stretch) → IsOwnedStretch v.owned v.clusters from s
    → commands_bytes (cluster_commands v from (v.clusters - from) [])
    ≡ (spelled_row v.image v.cluster from (s.free - from) ++ spelled_gap (s.end - s.free)) ++ commands_bytes (cluster_commands v s.end (v.clusters - s.end) [])
stretch-commands v from s is =
    let n = s.free - from in
    let m = s.end - s.free in
    let rest = v.clusters - s.end in
    let all : v.clusters - from ≡ n + (m + rest) = omega (arith, is.order, is.behind, is.within) in
    let free : from + n ≡ s.free = omega (arith, is.order) in
    let end : s.free + m ≡ s.end = omega (arith, is.behind) in
    let row = row-owned v from n (m + rest) (λ k least most. is.is_owned k least (omega arith)) in
    let apart : IsApart (cluster_commands v (s.free + m) rest []) = rw end (apart-behind v s.end rest (λ some. is.whole (omega arith))) in
    let hole = gap-free v s.free m rest (λ k least most. is.is_free k least (omega arith)) apart in
    ap (λ k. commands_bytes (cluster_commands v from k [])) all ∙ row
    ∙ ap (λ k. spelled_row v.image v.cluster from n ++ commands_bytes (cluster_commands v k (m + rest) [])) free
    ∙ ap (λ xs. spelled_row v.image v.cluster from n ++ xs) (hole ∙ ap (λ k. spelled_gap m ++ commands_bytes (cluster_commands v k rest [])) end)
    ∙ sym (append_assoc (spelled_row v.image v.cluster from n) (spelled_gap m) (commands_bytes (cluster_commands v s.end rest [])))

-- ---- rows

pub row-append : (image : List ℕ) (c from n m : ℕ) → spelled_row image c from (n + m) ≡ spelled_row image c from n ++ spelled_row image c (from + n) m
row-append image c from n zero = let none : n + zero ≡ n = omega arith in ap (spelled_row image c from) none ∙ sym (append-nil (spelled_row image c from n))
row-append image c from n (suc m) =
    let sum : n + suc m ≡ suc (n + m) = omega arith in
    let place : from + (n + m) ≡ from + n + m = omega arith in
    ap (spelled_row image c from) sum ∙ ap (λ k. spelled_row image c from (n + m) ++ (1 ∷ cluster_at image c k)) place
    ∙ ap (λ xs. xs ++ (1 ∷ cluster_at image c (from + n + m))) (row-append image c from n m)
    ∙ append_assoc (spelled_row image c from n) (spelled_row image c (from + n) m) (1 ∷ cluster_at image c (from + n + m))

-- the first of the clusters up to an end
pub row-more : (image : List ℕ) (c at count end : ℕ) → at + count ≤ end → spelled_row image c at (end - at) ≡ spelled_row image c at count ++ spelled_row image c (at + count) (end - (at + count))
row-more image c at count end within =
    let sum : end - at ≡ count + (end - (at + count)) = omega arith in
    ap (spelled_row image c at) sum ∙ row-append image c at count (end - (at + count))

pub row-none : (image : List ℕ) (c at end : ℕ) → end ≤ at → spelled_row image c at (end - at) ≡ []
row-none image c at end over = let none : end - at ≡ 0 = omega arith in ap (spelled_row image c at) none

-- all clusters are left
pub commands-first : (v : Volume) → commands_bytes (cluster_commands v 0 v.clusters []) ≡ commands_bytes (cluster_commands v 0 (v.clusters - 0) [])
commands-first v = let all : v.clusters ≡ v.clusters - 0 = omega arith in ap (λ n. commands_bytes (cluster_commands v 0 n [])) all

-- no cluster is left
pub commands-none : (v : Volume) (at : ℕ) → v.clusters ≤ at → commands_bytes (cluster_commands v at (v.clusters - at) []) ≡ []
commands-none v at over = let none : v.clusters - at ≡ 0 = omega arith in ap (λ n. commands_bytes (cluster_commands v at n [])) none

-- the tail is a row of one cluster
pub tail-row : (tail : List ℕ) (c : ℕ) → length tail ≡ c → spelled_row tail c 0 1 ≡ command_bytes (cluster tail)
unfolding cluster_at
tail-row tail c long =
    let none : (0 + 0) * c ≡ 0 = omega arith in
    ap (λ k. 1 ∷ take c (drop k tail)) none ∙ ap (λ xs. 1 ∷ xs) (take_all c tail (omega (arith, long)))

-- the commands of all clusters, and then the tail
pub saved-parts : (v : Volume) → commands_bytes (saved_commands v) ≡ commands_bytes (cluster_commands v 0 v.clusters []) ++ command_bytes (cluster (clone_tail v))
saved-parts v =
    ap commands_bytes (commands-append v 0 v.clusters (clone_tail v)) ∙ bytes-append (cluster_commands v 0 v.clusters []) (cluster (clone_tail v) ∷ [])
    ∙ ap (λ xs. commands_bytes (cluster_commands v 0 v.clusters []) ++ xs) (append-nil (command_bytes (cluster (clone_tail v))))

-- the header, the commands of all clusters, and the tail
pub clone-parts : (v : Volume) → clone_of v ≡ (clone_header_bytes (saved_header v) ++ commands_bytes (cluster_commands v 0 v.clusters [])) ++ command_bytes (cluster (clone_tail v))
unfolding clone_of
clone-parts v =
    ap (λ xs. clone_header_bytes (saved_header v) ++ xs) (saved-parts v)
    ∙ sym (append_assoc (clone_header_bytes (saved_header v)) (commands_bytes (cluster_commands v 0 v.clusters [])) (command_bytes (cluster (clone_tail v))))
