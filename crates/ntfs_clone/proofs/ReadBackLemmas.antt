-- What a save wrote is read: its header, and its commands in their order.
use Rattle.std.proofs.Common.{◌≡◌, ◌≤◌, ◌<◌, ◌+◌, ◌-◌, ◌*◌, ◌^◌, inl, inr, ℕ, zero, suc, Bool, true, false, not, ◌&&◌, ◌||◌, List, [], ◌∷◌, ◌++◌, length, take, drop, replicate, refl, sym, ap, ◌∙◌, subst, arith, nat_le, nat_lt, nat_eq, if◌then◌else◌, Ok, length-append, append_assoc}
use Rattle.std.proofs.lemmas.Bool.{le-leb, leb-true, lt-ltb}
use Rattle.std.proofs.lemmas.Bool.Decides.{eqb_tells, nat_tests}
use Rattle.std.proofs.lemmas.List.{append-nil}
use Rattle.std.proofs.Math.Seq.{drop-append_seam}
use Rattle.std.specs.Str.{bytes_eq}
use Rattle.byteorder.specs.Endian.{little_bytes}
use Rattle.byteorder.specs.Numbers.{length-bytes_low_first}
use Rattle.ntfs_base.specs.Bytes.{cluster_at, number_at, piece_at}
use Rattle.ntfs_base.specs.Growth.{resize_of}
use Rattle.ntfs_base.proofs.BytesLemmas.{length-cluster_at, number_at-bytes, number_at-take}
use Rattle.ntfs_base.proofs.GrowthLemmas.{length-resized}
use Rattle.ntfs_clone.specs.declared.header.CloneHeader.{CloneHeader}
use Rattle.ntfs_clone.specs.CloneOf.{IsVolume, Volume, clone_of, cluster_commands, clone_header_bytes, owned_count, saved_commands, saved_header, clone_tail, widened}
use Rattle.ntfs_clone.specs.Commands.{AreSequenced, Command, gap, cluster, commands_bytes, is_empty_gap, may_follow, read_clone}
use Rattle.ntfs_clone.specs.Header.{IsHeader, clone_header, clone_magic, clone_version, fixed_part, header_fields, header_in, is_clone_cluster, is_clone_count, is_device, magic_of, version_of}
use Rattle.ntfs_clone.proofs.CopyLawLemmas.{saved-covered}
use Rattle.ntfs_clone.proofs.SpellingLemmas.{spelled-read}

-- ---- the order of the commands

first-two : (a b d : Bool) → ((a && b) && d) ≡ true → (a && b) ≡ true
first-two true true d is = refl
first-two true false d is = is
first-two false b d is = absurd cc

and-true : (a b : Bool) → a ≡ true → b ≡ true → (a && b) ≡ true
and-true true true one other = refl
and-true true false one other = other
and-true false b one other = one

second : (a b : Bool) → (a && b) ≡ true → b ≡ true
second true b is = is
second false b is = absurd cc

-- whatever stood before, more commands may follow where the last one wasn't a gap of 0
unflagged : (c room : ℕ) (after : Bool) (commands : List Command) → AreSequenced c room after commands → AreSequenced c room false commands
unflagged c room after [] order = tt
unflagged c room after (gap count ∷ commands) order =
    (order.0, and-true (nat_lt 0 room && nat_le count room) true (first-two (nat_lt 0 room) (nat_le count room) (not (after && nat_eq count 0)) order.1) refl, order.2)
unflagged c room after (cluster bytes ∷ commands) order = order

not-empty : (n : ℕ) → nat_eq (n + 1) 0 ≡ false
not-empty n = elim (eqb_tells (n + 1) 0) [ inl same ↦ (let e = same.1 in absurd (omega (arith, e))) | inr other ↦ other.0 ]

gap-follows : (room count : ℕ) (after : Bool) → count ≤ room → may_follow (room + 1) after (gap (count + 1)) ≡ true
gap-follows room count after within =
    let some : nat_lt 0 (room + 1) ≡ true = lt-ltb 0 (room + 1) (omega arith) in
    let fits : nat_le (count + 1) (room + 1) ≡ true = le-leb (count + 1) (room + 1) (omega (arith, within)) in
    rw (some, fits, not-empty count) (each after)
  where
    each : (b : Bool) → not (b && false) ≡ true
    each true = refl
    each false = refl

-- one cluster more is left out
order-widened : (c room : ℕ) (before after : Bool) (commands : List Command) → AreSequenced c room before commands → AreSequenced c (room + 1) after (widened commands)
order-widened c room before after [] order = (refl, gap-follows room 0 after (omega arith), tt)
order-widened c room before after (cluster bytes ∷ commands) order =
    let left : room + 1 - 1 ≡ room = omega arith in
    (refl, gap-follows room 0 after (omega arith), subst (λ (n : ℕ). AreSequenced c n false (cluster bytes ∷ commands)) (sym left) (unflagged c room before (cluster bytes ∷ commands) order))
order-widened c room before after (gap count ∷ commands) order =
    let left : room - count ≡ room + 1 - (count + 1) = omega arith in
    let fits = leb-true count room (second (nat_lt 0 room) (nat_le count room) (first-two (nat_lt 0 room) (nat_le count room) (not (before && nat_eq count 0)) order.1)) in (
      refl,
      gap-follows room count after fits,
      subst (λ (b : Bool). AreSequenced c (room + 1 - (count + 1)) b commands) (sym (not-empty count))
          (subst (λ (n : ℕ). AreSequenced c n false commands) left (unflagged c (room - count) (is_empty_gap (gap count)) commands order.2)),
    )

saved-order : (v : Volume) (from n : ℕ) (after : Bool) (tail : List ℕ) → length tail ≡ v.cluster → ((k : ℕ) → k < from + n → length (cluster_at v.image v.cluster k) ≡ v.cluster)
    → AreSequenced v.cluster (n + 1) after (cluster_commands v from n (cluster tail ∷ []))
saved-order v from zero after tail whole each = (omega (arith, whole), lt-ltb 0 (zero + 1) (omega arith), tt)
saved-order v from (suc n) after tail whole each =
    let here = each from (omega arith) in
    let behind = λ (flag : Bool). saved-order v (from + 1) n flag tail whole (λ k below. each k (omega arith)) in
    two (v.owned from) here behind
  where
    two : (b : Bool) → length (cluster_at v.image v.cluster from) ≡ v.cluster
        → ((flag : Bool) → AreSequenced v.cluster (n + 1) flag (cluster_commands v (from + 1) n (cluster tail ∷ [])))
        → AreSequenced v.cluster (suc n + 1) after
        (if b then cluster (cluster_at v.image v.cluster from) ∷ cluster_commands v (from + 1) n (cluster tail ∷ []) else widened (cluster_commands v (from + 1) n (cluster tail ∷ [])))
    two true here behind =
        let left : n + 1 ≡ suc n + 1 - 1 = omega arith in (
          omega (arith, here),
          lt-ltb 0 (suc n + 1) (omega arith),
          subst (λ (m : ℕ). AreSequenced v.cluster m false (cluster_commands v (from + 1) n (cluster tail ∷ []))) left (behind false),
        )
    two false here behind =
        let more : n + 1 + 1 ≡ suc n + 1 = omega arith in
        subst (λ (m : ℕ). AreSequenced v.cluster m after (widened (cluster_commands v (from + 1) n (cluster tail ∷ [])))) more
        (order-widened v.cluster (n + 1) false after (cluster_commands v (from + 1) n (cluster tail ∷ [])) (behind false))

-- ---- the header

number-field : (n x place : ℕ) (bytes front rest : List ℕ) → bytes ≡ (front ++ little_bytes n x) ++ rest → length front ≡ place → x < 256 ^ n → place + n ≤ 50 → number_at n place (take 50 bytes) ≡ x
number-field n x place bytes front rest is long fits within =
    number_at-take n place 50 bytes within ∙ ap (number_at n place) is ∙ ap (λ p. number_at n p ((front ++ little_bytes n x) ++ rest)) (sym long) ∙ number_at-bytes n x front rest fits

longer : (n x place : ℕ) (front : List ℕ) → length front ≡ place → length (front ++ little_bytes n x) ≡ place + n
longer n x place front long = let e = length-append front (little_bytes n x) in let f = length-bytes_low_first 0 n x in omega (arith, e, f, long)

-- the numbers of a header are those that its fields can hold
pub record HasFields (h : CloneHeader) : Type 0 where
  pub cluster : h.cluster < 256 ^ 4
  pub device : h.device < 256 ^ 8
  pub clusters : h.clusters < 256 ^ 8
  pub in_use : h.in_use < 256 ^ 8
  pub offset : h.offset < 256 ^ 4

fields-read : (h : CloneHeader) (rest : List ℕ) → HasFields h → header_fields (take 50 (clone_header_bytes h ++ rest)) ≡ h
unfolding header_fields clone_header_bytes
fields-read h rest has =
    let p1 = clone_magic ++ clone_version in
    let b1 = little_bytes 4 h.cluster in
    let b2 = little_bytes 8 h.device in
    let b3 = little_bytes 8 h.clusters in
    let b4 = little_bytes 8 h.in_use in
    let b5 = little_bytes 4 h.offset in
    let z = replicate 6 0 in
    let l1 : length p1 ≡ 18 = refl in
    let l2 = longer 4 h.cluster 18 p1 l1 in
    let l3 = longer 8 h.device 22 (p1 ++ b1) l2 in
    let l4 = longer 8 h.clusters 30 ((p1 ++ b1) ++ b2) l3 in
    let l5 = longer 8 h.in_use 38 (((p1 ++ b1) ++ b2) ++ b3) l4 in
    λ i. record {
      cluster = number-field 4 h.cluster 18 _ p1 (b2 ++ (b3 ++ (b4 ++ (b5 ++ (z ++ rest))))) (one clone_magic clone_version b1 b2 b3 b4 b5 z rest) l1 has.cluster (omega arith) i;
      device = number-field 8 h.device 22 _ (p1 ++ b1) (b3 ++ (b4 ++ (b5 ++ (z ++ rest)))) (two clone_magic clone_version b1 b2 b3 b4 b5 z rest) l2 has.device (omega arith) i;
      clusters = number-field 8 h.clusters 30 _ ((p1 ++ b1) ++ b2) (b4 ++ (b5 ++ (z ++ rest))) (three clone_magic clone_version b1 b2 b3 b4 b5 z rest) l3 has.clusters (omega arith) i;
      in_use = number-field 8 h.in_use 38 _ (((p1 ++ b1) ++ b2) ++ b3) (b5 ++ (z ++ rest)) (four clone_magic clone_version b1 b2 b3 b4 b5 z rest) l4 has.in_use (omega arith) i;
      offset = number-field 4 h.offset 46 _ ((((p1 ++ b1) ++ b2) ++ b3) ++ b4) (z ++ rest) (five clone_magic clone_version b1 b2 b3 b4 b5 z rest) l5 has.offset (omega arith) i;
    }
  where
    one : (a b c d e f k z r : List ℕ) → (a ++ (b ++ (c ++ (d ++ (e ++ (f ++ (k ++ z))))))) ++ r ≡ ((a ++ b) ++ c) ++ (d ++ (e ++ (f ++ (k ++ (z ++ r)))))
    one a b c d e f k z r = simp append_assoc refl

    two : (a b c d e f k z r : List ℕ) → (a ++ (b ++ (c ++ (d ++ (e ++ (f ++ (k ++ z))))))) ++ r ≡ (((a ++ b) ++ c) ++ d) ++ (e ++ (f ++ (k ++ (z ++ r))))
    two a b c d e f k z r = simp append_assoc refl

    three : (a b c d e f k z r : List ℕ) → (a ++ (b ++ (c ++ (d ++ (e ++ (f ++ (k ++ z))))))) ++ r ≡ ((((a ++ b) ++ c) ++ d) ++ e) ++ (f ++ (k ++ (z ++ r)))
    three a b c d e f k z r = simp append_assoc refl

    four : (a b c d e f k z r : List ℕ) → (a ++ (b ++ (c ++ (d ++ (e ++ (f ++ (k ++ z))))))) ++ r ≡ (((((a ++ b) ++ c) ++ d) ++ e) ++ f) ++ (k ++ (z ++ r))
    four a b c d e f k z r = simp append_assoc refl

    five : (a b c d e f k z r : List ℕ) → (a ++ (b ++ (c ++ (d ++ (e ++ (f ++ (k ++ z))))))) ++ r ≡ ((((((a ++ b) ++ c) ++ d) ++ e) ++ f) ++ k) ++ (z ++ r)
    five a b c d e f k z r = simp append_assoc refl

front-fixed : (bytes : List ℕ) → 50 ≤ length bytes → fixed_part bytes ≡ take 50 bytes
unfolding resize_of
front-fixed bytes long = let none : 50 - length bytes ≡ 0 = omega arith in ap (λ n. take 50 bytes ++ replicate n 0) none ∙ append-nil (take 50 bytes)

length-header : (h : CloneHeader) → length (clone_header_bytes h) ≡ 56
unfolding clone_header_bytes
length-header h =
    let z = replicate {A = ℕ} 6 0 in
    let l1 = length-bytes_low_first 0 4 h.cluster in
    let l2 = length-bytes_low_first 0 8 h.device in
    let l3 = length-bytes_low_first 0 8 h.clusters in
    let l4 = length-bytes_low_first 0 8 h.in_use in
    let l5 = length-bytes_low_first 0 4 h.offset in
    simp (length-append, l1, l2, l3, l4, l5) refl

magic-read : (h : CloneHeader) (rest : List ℕ) → bytes_eq (magic_of (take 50 (clone_header_bytes h ++ rest))) clone_magic ≡ true
unfolding magic_of clone_header_bytes
magic-read h rest = refl

version-read : (h : CloneHeader) (rest : List ℕ) → bytes_eq (version_of (take 50 (clone_header_bytes h ++ rest))) clone_version ≡ true
unfolding version_of clone_header_bytes piece_at
version-read h rest = refl

-- a header that was spelled is read, with whatever stands behind it
header-read : (h : CloneHeader) (rest : List ℕ) → IsHeader h → HasFields h → h.offset ≡ 56 → clone_header (clone_header_bytes h ++ rest) ≡ Ok h
unfolding clone_header header_in is_device is_clone_count
header-read h rest is has at =
    let bytes = clone_header_bytes h ++ rest in
    let long : 56 ≤ length bytes = omega (arith, length-append (clone_header_bytes h) rest, length-header h) in
    let fixed = front-fixed bytes (omega (arith, long)) in
    let fields = fields-read h rest has in
    let magic = magic-read h rest in
    let version = version-read h rest in
    let t16 : nat_le 16 (length bytes) ≡ true = le-leb 16 (length bytes) (omega (arith, long)) in
    let t18 : nat_le 18 (length bytes) ≡ true = le-leb 18 (length bytes) (omega (arith, long)) in
    let t22 : nat_le 22 (length bytes) ≡ true = le-leb 22 (length bytes) (omega (arith, long)) in
    let t30 : nat_le 30 (length bytes) ≡ true = le-leb 30 (length bytes) (omega (arith, long)) in
    let t38 : nat_le 38 (length bytes) ≡ true = le-leb 38 (length bytes) (omega (arith, long)) in
    let t46 : nat_le 46 (length bytes) ≡ true = le-leb 46 (length bytes) (omega (arith, long)) in
    let t50 : nat_le 50 (length bytes) ≡ true = le-leb 50 (length bytes) (omega (arith, long)) in
    let device : nat_le h.device (2 ^ 62) ≡ true = le-leb h.device (2 ^ 62) is.device in
    let held : nat_le (h.clusters * h.cluster) h.device ≡ true = le-leb (h.clusters * h.cluster) h.device is.held in
    let some : nat_lt 0 h.clusters ≡ true = lt-ltb 0 h.clusters is.some_clusters in
    let most : nat_lt h.clusters (2 ^ 32) ≡ true = lt-ltb h.clusters (2 ^ 32) is.most_clusters in
    let offset : nat_le 50 h.offset ≡ true = le-leb 50 h.offset is.offset in
    let whole : nat_le h.offset (length bytes) ≡ true = le-leb h.offset (length bytes) (omega (arith, at, long)) in
    rw (fixed, fields, magic, version, t16, t18, t22, t30, t38, t46, t50, is.cluster, device, held, some, most, offset, either (nat_lt (length bytes) 38)) (rw whole refl)
  where
    either : (b : Bool) → (b || true) ≡ true
    either true = refl
    either false = refl

-- ---- the whole image

owned-most : (owned : ℕ → Bool) (from n : ℕ) → owned_count owned from n ≤ n
owned-most owned from zero = omega arith
owned-most owned from (suc n) = let rest = owned-most owned (from + 1) n in one (owned from) rest
  where
    one : (b : Bool) → owned_count owned (from + 1) n ≤ n → (if b then 1 else 0) + owned_count owned (from + 1) n ≤ suc n
    one true rest = omega (arith, rest)
    one false rest = omega (arith, rest)

cluster-least : (n : ℕ) → is_clone_cluster n ≡ true → (512 ≤ n) × (n ≤ 65536)
unfolding is_clone_cluster
cluster-least n is = (grind (arith, nat_tests), grind (arith, nat_tests))

part-below : (m n c : ℕ) → m < n → m * c + c ≤ n * c
part-below m n c below = grind arith

saved-is-header : (v : Volume) → IsVolume v → IsHeader (saved_header v)
unfolding saved_header
saved-is-header v is = record {
  cluster = is.cluster;
  least_cluster = (cluster-least v.cluster is.cluster).0;
  most_cluster = (cluster-least v.cluster is.cluster).1;
  device = is.device;
  held = is.held;
  some_clusters = is.some_clusters;
  most_clusters = is.most_clusters;
  offset = omega arith;
  most_offset = omega arith;
}

saved-has-fields : (v : Volume) → IsVolume v → HasFields (saved_header v)
unfolding saved_header
saved-has-fields v is = record {
  cluster = let most = (cluster-least v.cluster is.cluster).1 in omega (arith, most);
  device = omega (arith, is.device);
  clusters = omega (arith, is.most_clusters);
  in_use = let most = owned-most v.owned 0 v.clusters in omega (arith, most, is.most_clusters);
  offset = omega arith;
}

at-56 : (v : Volume) → (saved_header v).offset ≡ 56
unfolding saved_header
at-56 v = refl

all-clusters : (v : Volume) → (saved_header v).clusters ≡ v.clusters
unfolding saved_header
all-clusters v = refl

in-order : (v : Volume) → IsVolume v → AreSequenced (saved_header v).cluster ((saved_header v).clusters + 1) false (saved_commands v)
unfolding saved_header
in-order v is =
    saved-order v 0 v.clusters false (clone_tail v) (length-resized v.cluster _)
    (λ k below. length-cluster_at v.image v.cluster k (let here = part-below k v.clusters v.cluster (omega (arith, below)) in omega (arith, here, is.bytes)))

-- what was saved is read as it was
pub clone-read : (v : Volume) → IsVolume v → read_clone (clone_of v) ≡ Ok (record { header = saved_header v; commands = saved_commands v })
unfolding read_clone clone_of
clone-read v is =
    let h = saved_header v in
    let body = commands_bytes (saved_commands v) in
    let header = header-read h body (saved-is-header v is) (saved-has-fields v is) (at-56 v) in
    let behind : drop h.offset (clone_header_bytes h ++ body) ≡ body =
    ap (λ n. drop n (clone_header_bytes h ++ body)) (at-56 v ∙ sym (length-header h)) ∙ drop-append_seam (clone_header_bytes h) body in
    let commands = spelled-read h (saved_commands v) (saved-is-header v is) (in-order v is) (let e = saved-covered v in let f = all-clusters v in omega (arith, e, f)) in
    rw (header, behind, commands) refl
