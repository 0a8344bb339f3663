-- Bits of a stream, piece by piece.
use Rattle.std.proofs.Common.{◌≡◌, ◌≤◌, ◌<◌, ◌+◌, ◌-◌, ◌*◌, ◌&&◌, inl, inr, ℕ, zero, suc, Bool, true, false, List, Option, Some, None, length, take, drop, min, refl, sym, ap, ◌∙◌, subst, arith, nat_le, nat_lt, ◌==◌, if◌then◌else◌}
use Rattle.std.specs.Prelude.{is_some, not}
use Rattle.std.proofs.lemmas.Bool.{and_from, cases_lt, leb-true}
use Rattle.std.proofs.lemmas.Bool.Decides.{nat_tests}
use Rattle.std.proofs.lemmas.List.{length-drop, length-take, length-take-le, take-append-drop}
use Rattle.ntfs_base.specs.Bytes.{piece_at}
use Rattle.ntfs_bitmap.specs.Search.{FindsLeast}
use Rattle.ntfs_bitmap.proofs.LawLemmas.{bit-first, bit-second}
use Rattle.ntfs_bitmap.proofs.RunsLemmas.{true_or_false}
use Rattle.ntfs_bitmap.specs.Bits.{bit_of}
use Rattle.ntfs_bitmap.specs.ClusterSet.{Clusters, Differs, bound_of, has}
use Rattle.std.specs.Int.{div_ceil}
use Rattle.std.proofs.lemmas.Grind.{div_ceil_times}
use Rattle.ntfs_base.specs.Bytes.{cluster_at}
use Rattle.ntfs_boot.specs.declared.geometry.Geometry.{Geometry}
use Rattle.ntfs_rules.proofs.ContentLemmas.{shown-stream}
use Rattle.ntfs_rules.specs.FixedRecords.{has_both_sizes, is_bitmap, is_solid}
use Rattle.ntfs_runs.specs.Cells.{are_cells, map_cells}
use Rattle.ntfs_stream.proofs.BoolLemmas.{and-left, and-right}
use Rattle.ntfs_stream.specs.Putting.{shown_cells}
use Rattle.ntfs_stream.specs.StreamBytes.{bytes_of_stream, filled_stream}
use Rattle.ntfs_volume.specs.Streams.{Gathered, IsReadable, Stream}
use Rattle.ntfs_rules.specs.Clusters.{are_bits_of, holds_below, is_same_bit}
use Rattle.ntfs_rules.specs.Records.{has_bit}

-- a bit of a piece is one of the whole
pub bit-piece : (all buffer : List ℕ) (c p k : ℕ) → buffer ≡ take c (drop p all) → length buffer ≡ c → 0 < c → 8 * p ≤ k → k < 8 * p + 8 * c → bit_of buffer (k - 8 * p) ≡ has_bit all k
unfolding has_bit
bit-piece all buffer c p k is long some above below =
    let within : p + c ≤ length all = omega (arith, ap length is, long, some, length-take c (drop p all), length-drop p all) in
    let front : length (take p all) ≡ p = length-take-le p all (omega (arith, within)) in
    let place : 8 * length (take p all) + (k - 8 * p) ≡ k = omega (arith, front, above) in
    let inside : nat_lt k (8 * length all) ≡ true = grind (arith, nat_tests) in
    ap (λ xs. bit_of xs (k - 8 * p)) is
    ∙ sym (bit-first (take c (drop p all)) (drop c (drop p all)) (k - 8 * p) (omega (arith, ap length is, long, above, below)))
    ∙ ap (λ xs. bit_of xs (k - 8 * p)) (take-append-drop c (drop p all))
    ∙ sym (bit-second (take p all) (drop p all) (k - 8 * p))
    ∙ ap (λ xs. bit_of xs (8 * length (take p all) + (k - 8 * p))) (take-append-drop p all)
    ∙ ap (bit_of all) place
    ∙ ap (λ b. b && bit_of all k) (sym inside)

same-bits : (a b : Bool) → ((a ≡ b) → ⊥) → is_same_bit a b ≡ false
same-bits true true differ = absurd (differ refl)
same-bits true false differ = refl
same-bits false true differ = refl
same-bits false false differ = absurd (differ refl)

bits-same : (a b : Bool) → a ≡ b → is_same_bit a b ≡ true
bits-same true true same = refl
bits-same false false same = refl
bits-same true false same = absurd cc
bits-same false true same = absurd cc

undiffering : (a b : Bool) → ((a ≡ b → ⊥) → ⊥) → a ≡ b
undiffering true true differ = refl
undiffering false false differ = refl
undiffering true false differ = absurd (differ (λ e. absurd cc))
undiffering false true differ = absurd (differ (λ e. absurd cc))

-- ---- tests below a number

pub all-hold : (n : ℕ) (test : ℕ → Bool) → ((k : ℕ) → k < n → test k ≡ true) → holds_below n test ≡ true
all-hold zero test all = refl
all-hold (suc n) test all = and_from (holds_below n test) (test n) (all-hold n test (λ k below. all k (omega (arith, below)))) (all n (omega arith))

and-second : (a b : Bool) → b ≡ false → (a && b) ≡ false
and-second true b second = second
and-second false b second = refl

and-first : (a b : Bool) → a ≡ false → (a && b) ≡ false
and-first a b first = rw first refl

pub one-fails : (n k : ℕ) (test : ℕ → Bool) → k < n → test k ≡ false → holds_below n test ≡ false
one-fails zero k test below fails = absurd (omega (arith, below))
one-fails (suc n) k test below fails = elim (cases_lt k n) [
  | inl before ↦ and-first (holds_below n test) (test n) (one-fails n k test before fails)
  | inr at ↦
      let last : k ≡ n = omega (arith, below, at) in
      and-second (holds_below n test) (test n) (ap test (sym last) ∙ fails)
]

-- ---- a set and bits

-- bits that are the same up to a piece, and in the piece, are the same up to its end
pub bits-more : (set : Clusters) (all buffer : List ℕ) (n c p : ℕ) → bound_of set ≡ n → buffer ≡ take c (drop p all) → length buffer ≡ c → 0 < c
    → ((k : ℕ) → k < min n (8 * p) → has set k ≡ has_bit all k) → ((k : ℕ) → Differs set (8 * p) buffer k → ⊥)
    → (k : ℕ) → k < min n (8 * (p + c)) → has set k ≡ has_bit all k
bits-more set all buffer n c p bound is long some before none k below = elim (cases_lt k (8 * p)) [
  | inl front ↦ before k (omega (arith, below, front))
  | inr above ↦
      let inside : k < 8 * p + 8 * c = omega (arith, below) in
      let same = bit-piece all buffer c p k is long some above inside in
      undiffering (has set k) (bit_of buffer (k - 8 * p)) (λ differ. none k (record { from = above; below = omega (arith, below, bound); has_bit = omega (arith, inside, above, long); differs = differ })) ∙ same
]

-- all are the same
pub bits-all : (set : Clusters) (all : List ℕ) (n p : ℕ) → n ≤ 8 * p → ((k : ℕ) → k < min n (8 * p) → has set k ≡ has_bit all k) → are_bits_of (has set) n all ≡ true
bits-all set all n p past same = all-hold n (λ k. is_same_bit (has set k) (has_bit all k)) (λ k below. bits-same (has set k) (has_bit all k) (same k (omega (arith, below, past))))

-- one in the piece differs
pub bits-differ : (set : Clusters) (all buffer : List ℕ) (n c p k : ℕ) → bound_of set ≡ n → buffer ≡ take c (drop p all) → length buffer ≡ c → 0 < c → Differs set (8 * p) buffer k
    → are_bits_of (has set) n all ≡ false
bits-differ set all buffer n c p k bound is long some differs =
    let same = bit-piece all buffer c p k is long some differs.from (omega (arith, differs.has_bit, long)) in
    one-fails n k (λ k. is_same_bit (has set k) (has_bit all k)) (omega (arith, differs.below, bound)) (same-bits (has set k) (has_bit all k) (λ e. differs.differs (e ∙ sym same)))

-- ---- a turn of the loop

buffer-is : (all bits : List ℕ) (c p : ℕ) → bits ≡ piece_at p c all → bits ≡ take c (drop p all)
unfolding piece_at
buffer-is all bits c p is = is

pub bits-found : (set : Clusters) (all bits : List ℕ) (n c cl vcn : ℕ) (o : Option ℕ) → cl ≡ c → bound_of set ≡ n → bits ≡ piece_at (vcn * c) c all → length bits ≡ c → 0 < c
    → is_some o ≡ true → FindsLeast (Differs set (8 * (vcn * cl)) bits) o → false ≡ are_bits_of (has set) n all
bits-found set all bits n c cl vcn None same bound is long some there found = absurd cc
bits-found set all bits n c cl vcn (Some k) same bound is long some there found =
    sym (bits-differ set all bits n c (vcn * c) k bound (buffer-is all bits c (vcn * c) is) long some (subst (λ (x : ℕ). Differs set (8 * (vcn * x)) bits k) same found.holds))

pub bits-passed : (set : Clusters) (all bits : List ℕ) (n c cl vcn : ℕ) (o : Option ℕ) → cl ≡ c → bound_of set ≡ n → bits ≡ piece_at (vcn * c) c all → length bits ≡ c → 0 < c
    → is_some o ≡ false → FindsLeast (Differs set (8 * (vcn * cl)) bits) o → ((k : ℕ) → k < min n (8 * (vcn * c)) → has set k ≡ has_bit all k)
    → (k : ℕ) → k < min n (8 * ((vcn + 1) * c)) → has set k ≡ has_bit all k
bits-passed set all bits n c cl vcn (Some found_at) same bound is long some there found before k below = absurd cc
bits-passed set all bits n c cl vcn None same bound is long some there found before k below =
    let next : (vcn + 1) * c ≡ vcn * c + c = omega arith in
    bits-more set all bits n c (vcn * c) bound (buffer-is all bits c (vcn * c) is) long some before
    (λ j differs. found j (subst (λ (x : ℕ). Differs set (8 * (vcn * x)) bits j) (sym same) differs)) k (omega (arith, below, next))

pub most-next : (vcn c cl n : ℕ) → cl ≡ c → 8 * (vcn * cl) < n → 8 * ((vcn + 1) * c) < n + 8 * c
most-next vcn c cl n same below =
    let next : (vcn + 1) * c ≡ vcn * c + c = omega arith in
    let row : vcn * cl ≡ vcn * c = ap (λ x. vcn * x) same in
    omega (arith, next, row, below)

pub bits-end : (vcn c cl n : ℕ) → cl ≡ c → n ≤ 8 * (vcn * cl) → n ≤ 8 * (vcn * c)
bits-end vcn c cl n same past = let row : vcn * cl ≡ vcn * c = ap (λ x. vcn * x) same in omega (arith, row, past)

-- ---- a whole stream

pub bits-take : (m k : ℕ) (xs : List ℕ) → k < 8 * m → has_bit (take m xs) k ≡ has_bit xs k
unfolding has_bit
bits-take m k xs below = elim (cases_lt k (8 * length xs)) [
  | inl inside ↦
      let front : k < 8 * length (take m xs) = omega (arith, length-take m xs, below, inside) in
      both (nat_lt k (8 * length (take m xs))) (nat_lt k (8 * length xs)) (bit_of (take m xs) k) (bit_of xs k) (yes-below k (8 * length (take m xs)) front) (yes-below k (8 * length xs) inside)
      (sym (bit-first (take m xs) (drop m xs) k front) ∙ ap (λ ys. bit_of ys k) (take-append-drop m xs))
  | inr past ↦ neither (nat_lt k (8 * length (take m xs))) (nat_lt k (8 * length xs)) (bit_of (take m xs) k) (bit_of xs k) (no-below k (8 * length (take m xs)) (omega (arith, length-take m xs, past))) (no-below k (8 * length xs) past)
]
  where
    yes-below : (a b : ℕ) → a < b → nat_lt a b ≡ true
    yes-below a b lt = grind (arith, nat_tests)

    no-below : (a b : ℕ) → b ≤ a → nat_lt a b ≡ false
    no-below a b le = grind (arith, nat_tests)

    both : (p q a b : Bool) → p ≡ true → q ≡ true → a ≡ b → (p && a) ≡ (q && b)
    both p q a b left right same = rw (left, right) same

    neither : (p q a b : Bool) → p ≡ false → q ≡ false → (p && a) ≡ (q && b)
    neither p q a b left right = rw (left, right) refl

pub holds-same : (n : ℕ) (f g : ℕ → Bool) → ((k : ℕ) → k < n → f k ≡ g k) → holds_below n f ≡ holds_below n g
holds-same zero f g same = refl
holds-same (suc n) f g same =
    ap (λ b. b && f n) (holds-same n f g (λ k below. same k (omega (arith, below)))) ∙ ap (λ b. holds_below n g && b) (same n (omega arith))

pub bits-of-same : (n : ℕ) (test : ℕ → Bool) (xs ys : List ℕ) → ((k : ℕ) → k < n → has_bit xs k ≡ has_bit ys k) → are_bits_of test n xs ≡ are_bits_of test n ys
bits-of-same n test xs ys same = holds-same n (λ k. is_same_bit (test k) (has_bit xs k)) (λ k. is_same_bit (test k) (has_bit ys k)) (λ k below. ap (is_same_bit (test k)) (same k below))

pub tests-same : (n : ℕ) (test other : ℕ → Bool) (xs : List ℕ) → ((k : ℕ) → k < n → test k ≡ other k) → are_bits_of test n xs ≡ are_bits_of other n xs
tests-same n test other xs same = holds-same n (λ k. is_same_bit (test k) (has_bit xs k)) (λ k. is_same_bit (other k) (has_bit xs k)) (λ k below. ap (λ b. is_same_bit b (has_bit xs k)) (same k below))

-- a stream that is $Bitmap has room for the bits
record IsRoomy (n : ℕ) (s : Stream ℕ) : Type 0 where
  runs : s.is_resident ≡ false
  size : n ≤ 8 * s.size

roomy : (n : ℕ) (found : Gathered ℕ) → is_bitmap n found ≡ true → IsRoomy n found.stream
unfolding is_bitmap is_solid
roomy n found is =
    let solid = and-left (is_solid n found.stream) ((found.extents == 1) && has_both_sizes (div_ceil n 8) found.stream) is in
    let more = and-right (is_solid n found.stream) ((found.extents == 1) && has_both_sizes (div_ceil n 8) found.stream) is in
    let sizes = and-right (found.extents == 1) (has_both_sizes (div_ceil n 8) found.stream) more in
    let size = leb-true (div_ceil n 8) found.stream.size (and-left (nat_le (div_ceil n 8) found.stream.size) (nat_le (div_ceil n 8) found.stream.valid) sizes) in
    let rest = and-right (found.stream.flags == 0) (not found.stream.is_resident && are_cells false n found.stream.cells) solid in
    let all = (div_ceil_times n 8 (omega arith)).0 in
    record { runs = not-true found.stream.is_resident (and-left (not found.stream.is_resident) (are_cells false n found.stream.cells) rest); size = omega (arith, size, all) }
  where
    not-true : (b : Bool) → not b ≡ true → b ≡ false
    not-true true is = absurd cc
    not-true false is = refl

pub bitmap-room : (g : Geometry) (found : Gathered ℕ) (cells : List (Option ℕ)) → is_bitmap g.clusters found ≡ true → Some cells ≡ (if found.stream.is_resident then None else Some found.stream.cells) → IsReadable g found.stream
    → g.clusters ≤ 8 * (length cells * g.cluster)
bitmap-room g found cells is runs readable =
    let room = roomy g.clusters found is in
    let fits = readable.room room.runs in
    let size = leb-true found.stream.size (length found.stream.cells * g.cluster) (and-left (nat_le found.stream.size (length found.stream.cells * g.cluster)) (nat_le found.stream.valid found.stream.size) fits) in
    let same : cells ≡ found.stream.cells = same-cells found.stream.is_resident found.stream.cells cells room.runs runs in
    subst (λ (xs : List (Option ℕ)). g.clusters ≤ 8 * (length xs * g.cluster)) (sym same) (omega (arith, room.size, size))
  where
    same-cells : (resident : Bool) (given cells : List (Option ℕ)) → resident ≡ false → Some cells ≡ (if resident then None else Some given) → cells ≡ given
    same-cells true given cells runs is = absurd cc
    same-cells false given cells runs is = cc

pub bitmap-value : (n : ℕ) (found : Gathered ℕ) (rest : Bool) → None ≡ (if found.stream.is_resident then None else Some found.stream.cells) → false ≡ (is_bitmap n found && rest)
bitmap-value n found rest none = elim (true_or_false (is_bitmap n found)) [
  | inl is ↦ absurd (resident found.stream.is_resident found.stream.cells (roomy n found is).runs none)
  | inr is ↦ sym (and-first (is_bitmap n found) rest is)
]
  where
    resident : (b : Bool) (given : List (Option ℕ)) → b ≡ false → None ≡ (if b then None else Some given) → ⊥
    resident true given runs is = absurd cc
    resident false given runs is = absurd cc

pub bitmap-bits : (g : Geometry) (image : List ℕ) (found : Gathered ℕ) (cells : List (Option ℕ)) (test : ℕ → Bool) (valid : ℕ) (answer : Bool) → is_bitmap g.clusters found ≡ true → valid ≡ found.stream.valid
    → Some cells ≡ (if found.stream.is_resident then None else Some found.stream.cells) → IsReadable g found.stream → g.clusters * g.cluster ≤ length image
    → answer ≡ are_bits_of test g.clusters (shown_cells g.cluster valid (map_cells (cluster_at image g.cluster) cells))
    → answer ≡ (is_bitmap g.clusters found && are_bits_of test g.clusters (bytes_of_stream g.cluster (filled_stream g image found.stream)))
bitmap-bits g image found cells test valid answer is valid_is runs readable held same =
    let room = roomy g.clusters found is in
    let all = shown_cells g.cluster found.stream.valid (map_cells (cluster_at image g.cluster) cells) in
    same
    ∙ ap (λ v. are_bits_of test g.clusters (shown_cells g.cluster v (map_cells (cluster_at image g.cluster) cells))) valid_is
    ∙ bits-of-same g.clusters test all (take found.stream.size all) (λ k below. sym (bits-take found.stream.size k all (omega (arith, below, room.size))))
    ∙ ap (are_bits_of test g.clusters) (sym (shown-stream g image found.stream cells runs readable held))
    ∙ sym (ap (λ b. b && are_bits_of test g.clusters (bytes_of_stream g.cluster (filled_stream g image found.stream))) is)
