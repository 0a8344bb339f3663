-- How often clusters are claimed, and what their cells begin with.
use Rattle.std.proofs.Common.{◌≡◌, ◌≤◌, ◌<◌, ◌+◌, ◌==◌, ◌++◌, inl, inr, ℕ, zero, suc, Bool, true, false, List, [], ◌∷◌, length, Option, Some, None, refl, sym, ap, subst, ◌∙◌, arith, if◌then◌else◌}
use Rattle.std.specs.Prelude.{Contains, slice_get}
use Rattle.std.specs.List.{AllByRecursion}
use Rattle.std.proofs.lemmas.Bool.{cases_eq, eqb-true, ltb-true}
use Rattle.std.proofs.lemmas.Bool.Decides.{nat_tests}
use Rattle.ntfs_rules.specs.Clusters.{c8, count_if, first_double, times}
use Rattle.ntfs_rules.specs.FixedRecords.{begin_with}
use Rattle.ntfs_runs.specs.Cells.{are_cells, is_cell}
use Rattle.ntfs_survey.specs.Owned.{Claim}
use Rattle.ntfs_volume.proofs.AnswerLemmas.{and-left, and-right}

-- ---- claims

count-same : (x k : ℕ) → x ≡ k → count_if (x == k) ≡ 1
count-same x k same = grind (arith, nat_tests)

count-other : (x k : ℕ) → (x ≡ k → ⊥) → count_if (x == k) ≡ 0
count-other x k other = grind (arith, nat_tests)

-- a cluster that none has taken is taken once more at most
count-next : (x k : ℕ) (taken : List (Claim ℕ)) → times x taken ≡ 0 → times k taken ≤ 1 → count_if (x == k) + times k taken ≤ 1
count-next x k taken free most = elim (cases_eq x k) [
  | inl same ↦ let none : times x taken ≡ times k taken = ap (λ j. times j taken) same in omega (arith, none, free, count-same x k same)
  | inr other ↦ omega (arith, most, count-other x k other)
]

double-by : (b : Bool) (number : ℕ) (rest : Option ℕ) → (if b then rest else Some number) ≡ None → (b ≡ true) × (rest ≡ None)
double-by true number rest is = (refl, is)
double-by false number rest is = absurd cc

double-parts : (n number : ℕ) (rest : Option ℕ) → (if n == 0 then rest else Some number) ≡ None → (n ≡ 0) × (rest ≡ None)
double-parts n number rest is = let parts = double-by (n == 0) number rest is in (eqb-true n 0 parts.0, parts.1)

single-from : (k : ℕ) (taken claims : List (Claim ℕ)) → first_double taken claims ≡ None → times k taken ≤ 1 → times k taken + times k claims ≤ 1
unfolding first_double times
single-from k taken [] is most = omega arith
single-from k taken (claim ∷ claims) is most =
    let parts = double-parts (times claim.cluster taken) claim.number (first_double (claim ∷ taken) claims) is in
    let rest = single-from k (claim ∷ taken) claims parts.1 (count-next claim.cluster k taken parts.0 most) in
    omega (arith, rest)

-- where no cluster is claimed twice, each is claimed once at most
pub single : (k : ℕ) (claims : List (Claim ℕ)) → c8 claims ≡ None → times k claims ≤ 1
unfolding c8 times
single k claims is = let all = single-from k [] claims is (omega arith) in omega (arith, all)

-- a claim counts
pub counted : (k : ℕ) (claims : List (Claim ℕ)) (claim : Claim ℕ) → Contains claims claim → claim.cluster ≡ k → 1 ≤ times k claims
unfolding times
counted k [] claim has is = absurd (omega (arith, has.1))
counted k (x ∷ claims) claim (zero, lt, same) is =
    let one = count-same x.cluster k (ap (λ (c : Claim ℕ). c.cluster) same ∙ is) in omega (arith, one)
counted k (x ∷ claims) claim (suc j, lt, same) is =
    let rest = counted k claims claim (j, omega (arith, lt), same) is in omega (arith, rest)

-- what holds of each cluster that is claimed holds of each claim's
pub each-claim : (P : ℕ → Type 0) (claims : List (Claim ℕ)) → ((k : ℕ) → 0 < times k claims → P k) → AllByRecursion (λ (c : Claim ℕ). P c.cluster) claims
unfolding times
each-claim P [] all = tt
each-claim P (claim ∷ claims) all =
    let one = count-same claim.cluster claim.cluster refl in
    (all claim.cluster (omega (arith, one)), each-claim P claims (λ k some. all k (omega (arith, some))))

-- and the other way
pub each-cluster : (P : ℕ → Type 0) (claims : List (Claim ℕ)) (k : ℕ) → AllByRecursion (λ (c : Claim ℕ). P c.cluster) claims → 0 < times k claims → P k
unfolding times
each-cluster P [] k all some = absurd (omega (arith, some))
each-cluster P (claim ∷ claims) k all some = elim (cases_eq claim.cluster k) [
  | inl same ↦ subst P same all.0
  | inr other ↦ let none = count-other claim.cluster k other in each-cluster P claims k all.1 (omega (arith, some, none))
]

-- ---- cells

-- a cell of a cluster below n
pub cell-below : (n i k : ℕ) (cells : List (Option ℕ)) → are_cells true n cells ≡ true → slice_get cells i ≡ Some (Some k) → k < n
unfolding are_cells
cell-below n i k [] are is = absurd cc
cell-below n zero k (cell ∷ cells) are is =
    let same : cell ≡ Some k = cc in
    ltb-true k n (ap (is_cell true n) (sym same) ∙ and-left (is_cell true n cell) (are_cells true n cells) are)
cell-below n (suc i) k (cell ∷ cells) are is = cell-below n i k cells (and-right (is_cell true n cell) (are_cells true n cells) are) is

-- what holds of all cells holds of the clusters with which they begin
pub begins-all : (P : Option ℕ → Type 0) (ks : List ℕ) (cells : List (Option ℕ)) → begin_with ks cells ≡ true → AllByRecursion P cells → AllByRecursion (λ k. P (Some k)) ks
unfolding begin_with
begins-all P [] cells is all = tt
begins-all P (k ∷ ks) [] is all = absurd cc
begins-all P (k ∷ ks) (None ∷ cells) is all = absurd cc
begins-all P (k ∷ ks) (Some x ∷ cells) is all =
    let same = eqb-true x k (and-left (x == k) (begin_with ks cells) is) in
    (subst (λ n. P (Some n)) same all.0, begins-all P ks cells (and-right (x == k) (begin_with ks cells) is) all.1)

-- of two lists with which the same cells begin, the longer begins with the shorter
pub begins-both : (xs ys : List ℕ) (cells : List (Option ℕ)) → begin_with xs cells ≡ true → begin_with ys cells ≡ true → length xs ≤ length ys → (rest : List ℕ) × (ys ≡ xs ++ rest)
unfolding begin_with
begins-both [] ys cells one two short = (ys, refl)
begins-both (x ∷ xs) [] cells one two short = absurd (omega (arith, short))
begins-both (x ∷ xs) (y ∷ ys) [] one two short = absurd cc
begins-both (x ∷ xs) (y ∷ ys) (None ∷ cells) one two short = absurd cc
begins-both (x ∷ xs) (y ∷ ys) (Some k ∷ cells) one two short =
    let first = eqb-true k x (and-left (k == x) (begin_with xs cells) one) in
    let other = eqb-true k y (and-left (k == y) (begin_with ys cells) two) in
    let rest = begins-both xs ys cells (and-right (k == x) (begin_with xs cells) one) (and-right (k == y) (begin_with ys cells) two) (omega (arith, short)) in
    (rest.0, ap (λ zs. y ∷ zs) rest.1 ∙ ap (λ z. z ∷ (xs ++ rest.0)) (sym other ∙ first))
