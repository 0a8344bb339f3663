-- A sweep over clusters: which of numbered rows have a cluster. A row has the clusters from its first on, below its end.
use Rattle.std.proofs.Common.{◌≡◌, ◌+◌, ◌<◌, ◌≤◌, ◌&&◌, ℕ, zero, suc, Bool, true, false, cond, ltb, leb, eqb, List, [], ◌∷◌, ◌++◌, get_or, refl, sym, ap, ap₂, ◌∙◌, arith}
use Rattle.std.specs.List.{All, filter, sum_by}
use Rattle.std.specs.List.Sorted.{IsNonDecreasing, IsNonDecreasingBy, IsPermutation}
use Rattle.ntfs_owners.specs.Sweep.{IsSwept, number_where, upto}
use Rattle.std.proofs.lemmas.Bool.{eqb-true, eqb-false, lt-ltb, ltb-true, ltb-false, le-leb, leb-true}
use Rattle.std.proofs.lemmas.List.Elements.{All-append, All-cons, All-filter, All-head, All-nil, All-tail, All-weaker}
use Rattle.std.proofs.lemmas.List.Sorted.{IsNonDecreasingBy-short, sum_by-IsPermutation, All-permutation}
use Rattle.std.proofs.lemmas.List.Sums.{sum_by-cons, sum_by_push}

all-each : {X : Type 0} (P : X → Type 0) (xs : List X) → ((x : X) → P x) → All P xs
all-each P xs is = λ k d below. is (get_or xs k d)

all-both : {X : Type 0} (P Q R : X → Type 0) (xs : List X) → ((x : X) → P x → Q x → R x) → All P xs → All Q xs → All R xs
all-both P Q R xs is ps qs = λ k d below. is (get_or xs k d) (ps k d below) (qs k d below)

-- ---- sums that tell lists apart

pub sum-agree : {X : Type 0} (f g : X → ℕ) (xs : List X) → All (λ x. f x ≡ g x) xs → sum_by f xs ≡ sum_by g xs
sum-agree f g [] is = refl
sum-agree f g (x ∷ xs) is =
    sum_by-cons f x xs ∙ ap₂ (λ a b. a + b) (All-head (λ x. f x ≡ g x) x xs is) (sum-agree f g xs (All-tail (λ x. f x ≡ g x) x xs is)) ∙ sym (sum_by-cons g x xs)

pub sum-none : {X : Type 0} (f : X → ℕ) (xs : List X) → All (λ x. f x ≡ 0) xs → sum_by f xs ≡ 0
sum-none f [] is = refl
sum-none f (x ∷ xs) is =
    sum_by-cons f x xs ∙ ap₂ (λ a b. a + b) (All-head (λ x. f x ≡ 0) x xs is) (sum-none f xs (All-tail (λ x. f x ≡ 0) x xs is))

sum-filter_by : (p : ℕ → Bool) (f : ℕ → ℕ) (x : ℕ) (xs : List ℕ) (b : Bool) → sum_by f (filter p xs) ≡ sum_by (λ i. cond (p i) (f i) 0) xs
    → sum_by f (cond b (x ∷ filter p xs) (filter p xs)) ≡ cond b (f x) 0 + sum_by (λ i. cond (p i) (f i) 0) xs
sum-filter_by p f x xs true is = sum_by-cons f x (filter p xs) ∙ ap (λ n. f x + n) is
sum-filter_by p f x xs false is = is ∙ (let e : sum_by (λ i. cond (p i) (f i) 0) xs ≡ 0 + sum_by (λ i. cond (p i) (f i) 0) xs = omega arith in e)

pub sum-filter : (p : ℕ → Bool) (f : ℕ → ℕ) (xs : List ℕ) → sum_by f (filter p xs) ≡ sum_by (λ i. cond (p i) (f i) 0) xs
sum-filter p f [] = refl
sum-filter p f (x ∷ xs) = sum-filter_by p f x xs (p x) (sum-filter p f xs) ∙ sym (sum_by-cons (λ i. cond (p i) (f i) 0) x xs)

-- 1 at a number
abbrev one_if : Bool → ℕ
one_if b = cond b 1 0

abbrev ind : ℕ → ℕ → ℕ
ind n i = one_if (eqb i n)

ind-other : (n i : ℕ) → n < i → ind n i ≡ 0
ind-other n i lt = by_case (eqb i n) refl
  where
    by_case : (b : Bool) → eqb i n ≡ b → one_if b ≡ 0
    by_case false is = refl
    by_case true is = let e = eqb-true i n is in absurd (omega (arith, lt, e))

ind-same : (n : ℕ) → ind n n ≡ 1
ind-same n = by_case (eqb n n) refl
  where
    by_case : (b : Bool) → eqb n n ≡ b → one_if b ≡ 1
    by_case true is = refl
    by_case false is = absurd (eqb-false n n is refl)

-- each number is at most all later ones
abbrev Ascends : List ℕ → Type 0
Ascends [] = Unit {0}
Ascends (x ∷ xs) = All (λ y. x ≤ y) xs × Ascends xs

ascends-from : (xs : List ℕ) → IsNonDecreasing xs → Ascends xs
ascends-from [] up = tt
ascends-from (x ∷ xs) up = (
  (λ k d lt. up 0 (suc k) d (omega arith) (omega (arith, lt))),
  ascends-from xs (λ i j d le lt. up (suc i) (suc j) d (omega (arith, le)) (omega (arith, lt))),
)

least : (x n : ℕ) (xs : List ℕ) → Ascends (x ∷ xs) → 0 < sum_by (ind n) (x ∷ xs) → x ≤ n
least x n xs up some = by_order (ltb n x) refl
  where
    by_order : (b : Bool) → ltb n x ≡ b → x ≤ n
    by_order false is = ltb-false n x is
    by_order true is =
        let lt = ltb-true n x is in
        let none = sum-none (ind n) (x ∷ xs) (All-cons (λ i. ind n i ≡ 0) x xs (ind-other n x lt) (All-weaker (λ y. x ≤ y) (λ i. ind n i ≡ 0) (λ y le. ind-other n y (omega (arith, lt, le))) xs up.0)) in
        absurd (omega (arith, some, none))

-- ascending lists with the same sums are one
pub same-sorted : (xs ys : List ℕ) → Ascends xs → Ascends ys → ((f : ℕ → ℕ) → sum_by f xs ≡ sum_by f ys) → xs ≡ ys
same-sorted [] [] up vp same = refl
same-sorted [] (y ∷ ys) up vp same = let n = same (λ i. 1) in let c = sum_by-cons (λ i. 1) y ys in absurd (omega (arith, n, c))
same-sorted (x ∷ xs) [] up vp same = let n = same (λ i. 1) in let c = sum_by-cons (λ i. 1) x xs in absurd (omega (arith, n, c))
same-sorted (x ∷ xs) (y ∷ ys) up vp same =
    let low = least x y xs up (let s = same (ind y) in let c = sum_by-cons (ind y) y ys in let one = ind-same y in omega (arith, s, c, one)) in
    let high = least y x ys vp (let s = same (ind x) in let c = sum_by-cons (ind x) x xs in let one = ind-same x in omega (arith, s, c, one)) in
    let head : x ≡ y = omega (arith, low, high) in
    ap₂ (λ a (rest : List ℕ). a ∷ rest) head
    (same-sorted xs ys up.1 vp.1 (λ f. let s = same f in let c = sum_by-cons f x xs in let d = sum_by-cons f y ys in let e = ap f head in omega (arith, s, c, d, e)))

-- ---- rows

pub upto-below : (m : ℕ) → All (λ i. i < m) (upto m)
upto-below zero = All-nil (λ i. i < 0)
upto-below (suc m) =
    All-append (λ i. i < suc m) (upto m) (m ∷ []) (All-weaker (λ i. i < m) (λ i. i < suc m) (λ i lt. omega (arith, lt)) (upto m) (upto-below m))
    (All-cons (λ i. i < suc m) m [] (omega arith) (All-nil (λ i. i < suc m)))

ascends-push : (xs : List ℕ) (y : ℕ) → Ascends xs → All (λ x. x ≤ y) xs → Ascends (xs ++ y ∷ [])
ascends-push [] y up below = (All-nil (λ z. y ≤ z), tt)
ascends-push (x ∷ xs) y up below = (
  All-append (λ z. x ≤ z) xs (y ∷ []) up.0 (All-cons (λ z. x ≤ z) y [] (All-head (λ x. x ≤ y) x xs below) (All-nil (λ z. x ≤ z))),
  ascends-push xs y up.1 (All-tail (λ x. x ≤ y) x xs below),
)

upto-ascends : (m : ℕ) → Ascends (upto m)
upto-ascends zero = tt
upto-ascends (suc m) = ascends-push (upto m) m (upto-ascends m) (All-weaker (λ i. i < m) (λ i. i ≤ m) (λ i lt. omega (arith, lt)) (upto m) (upto-below m))

ascends-filter_by : (p : ℕ → Bool) (x : ℕ) (xs : List ℕ) (b : Bool) → All (λ y. x ≤ y) xs → Ascends (filter p xs) → Ascends (cond b (x ∷ filter p xs) (filter p xs))
ascends-filter_by p x xs true low up = (All-filter p (λ y. x ≤ y) xs low, up)
ascends-filter_by p x xs false low up = up

ascends-filter : (p : ℕ → Bool) (xs : List ℕ) → Ascends xs → Ascends (filter p xs)
ascends-filter p [] up = tt
ascends-filter p (x ∷ xs) up = ascends-filter_by p x xs (p x) up.0 (ascends-filter p xs up.1)

-- row i has cluster k
abbrev pub has_row : (ℕ → ℕ) → (ℕ → ℕ) → ℕ → ℕ → Bool
has_row first end k i = leb (first i) k && ltb k (end i)

pub leb-above : (a b : ℕ) → b < a → leb a b ≡ false
leb-above a b lt = by_case (leb a b) refl
  where
    by_case : (t : Bool) → leb a b ≡ t → t ≡ false
    by_case false is = refl
    by_case true is = let le = leb-true a b is in absurd (omega (arith, lt, le))

pub ltb-past : (a b : ℕ) → b ≤ a → ltb a b ≡ false
ltb-past a b le = by_case (ltb a b) refl
  where
    by_case : (t : Bool) → ltb a b ≡ t → t ≡ false
    by_case false is = refl
    by_case true is = let lt = ltb-true a b is in absurd (omega (arith, lt, le))

-- the next row begins
pub swept-move : (first end : ℕ → ℕ) (m at : ℕ) (active : List ℕ) (s : ℕ × ℕ) (waiting : List (ℕ × ℕ)) → s.0 ≡ at → IsSwept first end m at active (s ∷ waiting) → IsSwept first end m at (active ++ s.1 ∷ []) waiting
swept-move first end m at active s waiting is swept = record {
  law = λ f. let c = sum_by-cons (λ (s : ℕ × ℕ). f s.1) s waiting in let p = sum_by_push f active s.1 in let l = swept.law f in omega (arith, c, p, l);
  begun = All-append (λ i. (first i ≤ at) × (i < m)) active (s.1 ∷ []) swept.begun
      (All-cons (λ i. (first i ≤ at) × (i < m)) s.1 [] (let t = All-head (λ (s : ℕ × ℕ). (s.0 ≡ first s.1) × (s.0 < end s.1) × (s.1 < m)) s waiting swept.tied in (let e = t.0 in omega (arith, e, is), t.2)) (All-nil (λ i. (first i ≤ at) × (i < m))));
  later = All-tail (λ (s : ℕ × ℕ). at ≤ s.0) s waiting swept.later;
  tied = All-tail (λ (s : ℕ × ℕ). (s.0 ≡ first s.1) × (s.0 < end s.1) × (s.1 < m)) s waiting swept.tied;
  sorted = λ i j d le lt. swept.sorted (suc i) (suc j) d (omega (arith, le)) (omega (arith, lt));
}

-- all that wait begin later
pub later-head : (waiting : List (ℕ × ℕ)) (s : ℕ × ℕ) (at : ℕ) → IsNonDecreasingBy (λ (s : ℕ × ℕ). s.0) (s ∷ waiting) → at < s.0 → All (λ (s : ℕ × ℕ). at < s.0) (s ∷ waiting)
later-head waiting s at sorted lt = λ k d below. let up = sorted 0 k d (omega arith) below in omega (arith, up, lt)

-- active rows are those that have the cluster, once all that begin at it are active
pub swept-active : (first end : ℕ → ℕ) (m at : ℕ) (active : List ℕ) (waiting : List (ℕ × ℕ)) → IsSwept first end m at active waiting → All (λ s. at < s.0) waiting → IsNonDecreasing active
    → active ≡ filter (has_row first end at) (upto m)
swept-active first end m at active waiting swept later up =
    same-sorted active (filter (has_row first end at) (upto m)) (ascends-from active up) (ascends-filter (has_row first end at) (upto m) (upto-ascends m)) sums
  where
    both : (i : ℕ) (f : ℕ) (a b : Bool) → number_where b (number_where a f) ≡ number_where (a && b) f
    both i f true true = refl
    both i f true false = refl
    both i f false true = refl
    both i f false false = refl

    sums : (f : ℕ → ℕ) → sum_by f active ≡ sum_by f (filter (has_row first end at) (upto m))
    sums f =
        let g : ℕ → ℕ = λ i. number_where (leb (first i) at) (f i) in
        let here = sum-agree f g active (All-weaker (λ i. (first i ≤ at) × (i < m)) (λ i. f i ≡ g i) (λ i b. sym (ap (λ t. number_where t (f i)) (le-leb (first i) at b.0))) active swept.begun) in
        let none = sum-none (λ (s : ℕ × ℕ). g s.1) waiting (all-both (λ (s : ℕ × ℕ). (s.0 ≡ first s.1) × (s.0 < end s.1) × (s.1 < m)) (λ s. at < s.0) (λ s. g s.1 ≡ 0) waiting (λ s t l. let e = t.0 in ap (λ b. number_where b (f s.1)) (leb-above (first s.1) at (omega (arith, l, e)))) swept.tied later) in
        let law = swept.law g in
        let parts = sum-agree (λ i. number_where (ltb at (end i)) (g i)) (λ i. number_where (has_row first end at i) (f i)) (upto m) (all-each (λ i. number_where (ltb at (end i)) (g i) ≡ number_where (has_row first end at i) (f i)) (upto m) (λ i. both i (f i) (leb (first i) at) (ltb at (end i)))) in
        let kept = sum-filter (has_row first end at) f (upto m) in
        omega (arith, here, none, law, parts, kept)

-- the rows that end at the next cluster go
pub swept-next : (first end : ℕ → ℕ) (m at : ℕ) (active : List ℕ) (waiting : List (ℕ × ℕ)) → IsSwept first end m at active waiting → All (λ s. at < s.0) waiting
    → IsSwept first end m (at + 1) (filter (λ i. ltb (at + 1) (end i)) active) waiting
swept-next first end m at active waiting swept later = record {
  law = law;
  begun = All-filter (λ i. ltb (at + 1) (end i)) (λ i. (first i ≤ at + 1) × (i < m)) active (All-weaker (λ i. (first i ≤ at) × (i < m)) (λ i. (first i ≤ at + 1) × (i < m)) (λ i b. (let le = b.0 in omega (arith, le), b.1)) active swept.begun);
  later = All-weaker (λ (s : ℕ × ℕ). at < s.0) (λ s. at + 1 ≤ s.0) (λ s lt. omega (arith, lt)) waiting later;
  tied = swept.tied;
  sorted = swept.sorted;
}
  where
    both : (f : ℕ) (p q : Bool) → (q ≡ true → p ≡ true) → number_where p (number_where q f) ≡ number_where q f
    both f true q is = refl
    both f false false is = refl
    both f false true is = let e = is refl in absurd cc

    law : (f : ℕ → ℕ) → sum_by f (filter (λ i. ltb (at + 1) (end i)) active) + sum_by (λ (s : ℕ × ℕ). f s.1) waiting ≡ sum_by (λ i. number_where (ltb (at + 1) (end i)) (f i)) (upto m)
    law f =
        let g : ℕ → ℕ = λ i. number_where (ltb (at + 1) (end i)) (f i) in
        let kept = sum-filter (λ i. ltb (at + 1) (end i)) f active in
        let all = sum-agree (λ (s : ℕ × ℕ). f s.1) (λ (s : ℕ × ℕ). g s.1) waiting (all-both (λ (s : ℕ × ℕ). (s.0 ≡ first s.1) × (s.0 < end s.1) × (s.1 < m)) (λ s. at < s.0) (λ s. f s.1 ≡ g s.1) waiting (λ s t l. let e = t.1 in ap (λ b. number_where b (f s.1)) (sym (lt-ltb (at + 1) (end s.1) (omega (arith, l, e))))) swept.tied later) in
        let old = swept.law g in
        let same = sum-agree (λ i. number_where (ltb at (end i)) (g i)) g (upto m) (all-each (λ i. number_where (ltb at (end i)) (g i) ≡ g i) (upto m) (λ i. both (f i) (ltb at (end i)) (ltb (at + 1) (end i)) (λ is. lt-ltb at (end i) (let lt = ltb-true (at + 1) (end i) is in omega (arith, lt))))) in
        omega (arith, kept, all, old, same)

-- where no row is active, none has a cluster before the next one begins
pub swept-jump : (first end : ℕ → ℕ) (m at to : ℕ) (waiting : List (ℕ × ℕ)) → at ≤ to → IsSwept first end m at [] waiting → All (λ s. to ≤ s.0) waiting → IsSwept first end m to [] waiting
swept-jump first end m at to waiting le swept later = record {
  law = law;
  begun = All-nil (λ i. (first i ≤ to) × (i < m));
  later = later;
  tied = swept.tied;
  sorted = swept.sorted;
}
  where
    both : (f : ℕ) (p q : Bool) → (q ≡ true → p ≡ true) → number_where p (number_where q f) ≡ number_where q f
    both f true q is = refl
    both f false false is = refl
    both f false true is = let e = is refl in absurd cc

    law : (f : ℕ → ℕ) → sum_by f [] + sum_by (λ (s : ℕ × ℕ). f s.1) waiting ≡ sum_by (λ i. number_where (ltb to (end i)) (f i)) (upto m)
    law f =
        let g : ℕ → ℕ = λ i. number_where (ltb to (end i)) (f i) in
        let all = sum-agree (λ (s : ℕ × ℕ). f s.1) (λ (s : ℕ × ℕ). g s.1) waiting (all-both (λ (s : ℕ × ℕ). (s.0 ≡ first s.1) × (s.0 < end s.1) × (s.1 < m)) (λ s. to ≤ s.0) (λ s. f s.1 ≡ g s.1) waiting (λ s t l. let e = t.1 in ap (λ b. number_where b (f s.1)) (sym (lt-ltb to (end s.1) (omega (arith, l, e))))) swept.tied later) in
        let old = swept.law g in
        let same = sum-agree (λ i. number_where (ltb at (end i)) (g i)) g (upto m) (all-each (λ i. number_where (ltb at (end i)) (g i) ≡ g i) (upto m) (λ i. both (f i) (ltb at (end i)) (ltb to (end i)) (λ is. lt-ltb at (end i) (let lt = ltb-true to (end i) is in omega (arith, lt, le))))) in
        omega (arith, all, old, same)

none-of : (xs : List ℕ) → sum_by (λ i. 1) xs ≡ 0 → xs ≡ []
none-of [] is = refl
none-of (x ∷ xs) is = let c = sum_by-cons (λ i. 1) x xs in absurd (omega (arith, is, c))

-- no row has a cluster before the next one begins
pub swept-gap : (first end : ℕ → ℕ) (m at k : ℕ) (waiting : List (ℕ × ℕ)) → at ≤ k → IsSwept first end m at [] waiting → All (λ s. k < s.0) waiting → filter (has_row first end k) (upto m) ≡ []
swept-gap first end m at k waiting le swept later =
    let here = swept-jump first end m at k waiting le swept (All-weaker (λ (s : ℕ × ℕ). k < s.0) (λ s. k ≤ s.0) (λ s lt. omega (arith, lt)) waiting later) in
    sym (swept-active first end m k [] waiting here later (IsNonDecreasingBy-short (λ x. x) [] (omega arith)))

-- at the beginning all rows wait
pub swept-start : (first end : ℕ → ℕ) (m at : ℕ) (waiting : List (ℕ × ℕ)) → ((f : ℕ → ℕ) → sum_by (λ (s : ℕ × ℕ). f s.1) waiting ≡ sum_by f (upto m)) → ((i : ℕ) → i < m → at < end i)
    → All (λ s. at ≤ s.0) waiting → All (λ s. (s.0 ≡ first s.1) × (s.0 < end s.1) × (s.1 < m)) waiting → IsNonDecreasingBy (λ s. s.0) waiting → IsSwept first end m at [] waiting
swept-start first end m at waiting sums ends later tied sorted = record {
  law = λ f.
      let s = sums f in
      let all = sum-agree f (λ i. number_where (ltb at (end i)) (f i)) (upto m) (All-weaker (λ i. i < m) (λ i. f i ≡ number_where (ltb at (end i)) (f i)) (λ i lt. ap (λ b. number_where b (f i)) (sym (lt-ltb at (end i) (ends i lt)))) (upto m) (upto-below m)) in
      omega (arith, s, all);
  begun = All-nil (λ i. (first i ≤ at) × (i < m));
  later = later;
  tied = tied;
  sorted = sorted;
}

-- the active rows in another order
pub swept-sorted : (first end : ℕ → ℕ) (m at : ℕ) (active rows : List ℕ) (waiting : List (ℕ × ℕ)) → IsPermutation active rows → IsSwept first end m at active waiting → IsSwept first end m at rows waiting
swept-sorted first end m at active rows waiting moved swept = record {
  law = λ f. let s = sum_by-IsPermutation f active rows moved in let l = swept.law f in omega (arith, s, l);
  begun = All-permutation (λ i. (first i ≤ at) × (i < m)) active rows moved swept.begun;
  later = swept.later;
  tied = swept.tied;
  sorted = swept.sorted;
}
