-- How many clusters runs have below one: run by run.
use Rattle.std.proofs.Common.{◌≡◌, ◌+◌, ◌-◌, ◌<◌, ◌≤◌, ℕ, zero, suc, min, Bool, true, false, not, List, [], ◌∷◌, Option, Some, None, inl, inr, refl, sym, ap, ap₂, subst, ◌∙◌, arith, filter, cond, if◌then◌else◌}
use Rattle.std.proofs.lemmas.Bool.{cases_eq, cases_lt}
use Rattle.std.proofs.lemmas.Map.Entries.{lookup_head, lookup_tail}
use Rattle.std.proofs.lemmas.Map.Keys.{sorted_head, sorted_tail}
use Rattle.std.specs.BTreeMap.{is_at}
use Rattle.std.specs.Cmp.{nat_cmp_is}
use Rattle.std.specs.List.{AllByRecursion}
use Rattle.std.specs.List.Sorted.{IsStrictlySortedBy}
use Rattle.std.specs.Map.{keys_of, lookup}
use Rattle.std.specs.Ordering.{nat_cmp, is_eq, is_le}
use Rattle.std.specs.declared.cmp.Ordering.TheVariants.{Less, Equal, Greater}
use Rattle.ntfs_bitmap.specs.ClusterSet.{count_where}
use Rattle.ntfs_bitmap.specs.Runs.{Lengths, AreLongestRuns, is_covered}
use Rattle.ntfs_bitmap.proofs.KeyLemmas.{not_at}
use Rattle.ntfs_bitmap.proofs.RunsLemmas.{covered-no, covered-yes, same-some}

-- ---- the runs that begin from one number on, before another

-- the entries are those runs, in order
abbrev pub Follows : Lengths → ℕ → ℕ → List (ℕ × ℕ) → Type 0
Follows runs at limit [] = (first : ℕ) → at ≤ first → first < limit → runs first ≡ None
Follows runs at limit (run ∷ rest) = (at ≤ run.0) × (run.0 < limit) × (runs run.0 ≡ Some run.1)
    × ((first : ℕ) → at ≤ first → first < run.0 → runs first ≡ None) × Follows runs (suc run.0) limit rest

follows-same : (f g : Lengths) (at limit : ℕ) (rest : List (ℕ × ℕ)) → ((n : ℕ) → at ≤ n → n < limit → f n ≡ g n)
    → Follows f at limit rest → Follows g at limit rest
follows-same f g at limit [] same follows = λ n from below. sym (same n from below) ∙ follows n from below
follows-same f g at limit (run ∷ rest) same follows = (
  follows.0,
  follows.1,
  sym (same run.0 follows.0 follows.1) ∙ follows.2,
  λ n from below. sym (same n from (omega (arith, below, follows.1))) ∙ follows.3 n from below,
  follows-same f g (suc run.0) limit rest (λ n from below. same n (omega (arith, from, follows.0)) below) follows.4,
)

-- from a later number on, where no run begins in between
follows-later : (runs : Lengths) (at later limit : ℕ) (rest : List (ℕ × ℕ)) → at ≤ later
    → ((n : ℕ) → at ≤ n → n < later → runs n ≡ None) → Follows runs at limit rest → Follows runs later limit rest
follows-later runs at later limit [] up none follows = λ n from below. follows n (omega (arith, up, from)) below
follows-later runs at later limit (run ∷ rest) up none follows =
    elim (cases_lt run.0 later) [
      | inl before ↦ let is = follows.2 in let no_run = none run.0 follows.0 before in cc
      | inr behind ↦ (
        behind,
        follows.1,
        follows.2,
        λ n from below. follows.3 n
            (omega (arith, up, from)) below,
        follows.4,
      )
    ]

abbrev AllFrom : ℕ → List (ℕ × ℕ) → Type 0
AllFrom at [] = Unit {0}
AllFrom at (e ∷ es) = (at ≤ e.0) × AllFrom at es

AllFrom-lower : (at low : ℕ) (es : List (ℕ × ℕ)) → low ≤ at → AllFrom at es → AllFrom low es
AllFrom-lower at low [] le all = tt
AllFrom-lower at low (e ∷ es) le all = (omega (arith, le, all.0), AllFrom-lower at low es le all.1)

less-from-cmp : (a b : ℕ) → nat_cmp a b ≡ Less → a < b
less-from-cmp a b is =
    elim (cases_lt a b) [
      | inl less ↦ less
      | inr up ↦ elim (cases_eq a b) [
        | inl same ↦ let equal = nat_cmp_is a b Equal same in cc
        | inr differ ↦ let greater = nat_cmp_is a b Greater (omega (arith, up, differ)) in cc
      ]
    ]

AllFrom-head : (k : ℕ) (es : List (ℕ × ℕ)) → AllByRecursion (λ y. nat_cmp k y ≡ Less) (keys_of es) → AllFrom (suc k) es
AllFrom-head k [] all = tt
AllFrom-head k (e ∷ es) all = (less-from-cmp k e.0 all.0, AllFrom-head k es all.1)

lookup-below : (n at : ℕ) (es : List (ℕ × ℕ)) → AllFrom at es → n < at → lookup (is_at (nat_cmp n)) es ≡ None
lookup-below n at [] all below = refl
lookup-below n at (e ∷ es) all below =
    lookup_tail (is_at (nat_cmp n)) e es (not_at n e.0 (λ same. omega (arith, same, below, all.0)))
    ∙ lookup-below n at es all.1 below

abbrev is_before : ℕ → ℕ × ℕ → Bool
is_before limit e = not (is_le (nat_cmp limit e.0))

before-yes : (limit : ℕ) (e : ℕ × ℕ) → e.0 < limit → is_before limit e ≡ true
before-yes limit e below = ap (λ o. not (is_le o)) (sym (nat_cmp_is limit e.0 Greater below))

before-no : (limit : ℕ) (e : ℕ × ℕ) → limit ≤ e.0 → is_before limit e ≡ false
before-no limit e from =
    elim (cases_eq limit e.0) [
      | inl same ↦ ap (λ o. not (is_le o)) (sym (nat_cmp_is limit e.0 Equal same))
      | inr differ ↦ ap (λ o. not (is_le o)) (sym (nat_cmp_is limit e.0 Less (omega (arith, from, differ))))
    ]

same-at : (n : ℕ) → is_at (nat_cmp n) n ≡ true
same-at n = ap is_eq (sym (nat_cmp_is n n Equal refl))

-- those of a map's entries that begin before a number
pub follows-sorted : (es : List (ℕ × ℕ)) (at limit : ℕ) → IsStrictlySortedBy nat_cmp (keys_of es) → AllFrom at es
    → Follows (λ n. lookup (is_at (nat_cmp n)) es) at limit (filter (is_before limit) es)
follows-sorted [] at limit sorted all = λ n from below. refl
follows-sorted (e ∷ es) at limit sorted all =
    let later = AllFrom-head e.0 es (sorted_head nat_cmp e.0 (keys_of es) sorted) in
    let tail = sorted_tail nat_cmp e.0 (keys_of es) sorted in
    elim (cases_lt e.0 limit) [
      | inl below ↦
          subst (λ (b : Bool). Follows (λ n. lookup (is_at (nat_cmp n)) (e ∷ es)) at limit
          (cond b (e ∷ filter (is_before limit) es) (filter (is_before limit) es))) (sym (before-yes limit e below)) (
            all.0,
            below,
            lookup_head (is_at (nat_cmp e.0)) e es (same-at e.0),
            λ n from under. lookup-below n e.0 (e ∷ es)
                (omega arith, AllFrom-lower (suc e.0) e.0 es (omega arith) later) under,
            follows-same (λ n. lookup (is_at (nat_cmp n)) es) (λ n. lookup (is_at (nat_cmp n)) (e ∷ es)) (suc e.0) limit
                (filter (is_before limit) es)
                (λ n from under. sym
                (lookup_tail (is_at (nat_cmp n)) e es (not_at n e.0 (λ same. omega (arith, same, from)))))
                (follows-sorted es (suc e.0) limit tail later),
          )
      | inr behind ↦
          subst (λ (b : Bool). Follows (λ n. lookup (is_at (nat_cmp n)) (e ∷ es)) at limit
          (cond b (e ∷ filter (is_before limit) es) (filter (is_before limit) es))) (sym (before-no limit e behind))
          (follows-same (λ n. lookup (is_at (nat_cmp n)) es) (λ n. lookup (is_at (nat_cmp n)) (e ∷ es)) at limit
          (filter (is_before limit) es)
          (λ n from under. sym
          (lookup_tail (is_at (nat_cmp n)) e es (not_at n e.0 (λ same. omega (arith, same, under, behind)))))
          (follows-sorted es at limit tail all.1))
    ]

pub AllFrom-zero : (es : List (ℕ × ℕ)) → AllFrom 0 es
AllFrom-zero [] = tt
AllFrom-zero (e ∷ es) = (omega arith, AllFrom-zero es)

-- ---- counts

-- no number of a row passes
pub count-none : (test : ℕ → Bool) (a n : ℕ) → ((c : ℕ) → a ≤ c → c < a + n → test c ≡ false)
    → count_where test (a + n) ≡ count_where test a
count-none test a zero none = let same : a + zero ≡ a = omega arith in ap (count_where test) same
count-none test a (suc n) none =
    let next : a + suc n ≡ suc (a + n) = omega arith in
    let last = none (a + n) (omega arith) (omega arith) in
    let rest = count-none test a n (λ c from below. none c from (omega (arith, below))) in
    ap (count_where test) next ∙ ap₂ (λ count b. count + (if b then 1 else 0)) rest last ∙ (omega arith)

-- each number of a row passes
pub count-all : (test : ℕ → Bool) (a n : ℕ) → ((c : ℕ) → a ≤ c → c < a + n → test c ≡ true)
    → count_where test (a + n) ≡ count_where test a + n
count-all test a zero all = let same : a + zero ≡ a = omega arith in ap (count_where test) same ∙ omega arith
count-all test a (suc n) all =
    let next : a + suc n ≡ suc (a + n) = omega arith in
    let last = all (a + n) (omega arith) (omega arith) in
    let rest = count-all test a n (λ c from below. all c from (omega (arith, below))) in
    ap (count_where test) next ∙ ap₂ (λ count b. count + (if b then 1 else 0)) rest last ∙ (omega arith)

pub count-le : (test : ℕ → Bool) (n : ℕ) → count_where test n ≤ n
count-le test zero = omega arith
count-le test (suc n) = one-more (count_where test n) n (test n) (count-le test n)
  where
    one-more : (count n : ℕ) (b : Bool) → count ≤ n → count + (if b then 1 else 0) ≤ suc n
    one-more count n true le = omega (arith, le)
    one-more count n false le = omega (arith, le)

-- how many numbers below a limit these runs have
abbrev pub clipped : ℕ → List (ℕ × ℕ) → ℕ
clipped limit [] = 0
clipped limit (run ∷ rest) = min run.1 (limit - run.0) + clipped limit rest

module _ (bound : ℕ) (runs : Lengths) (are : AreLongestRuns bound runs) where
  -- no run reaches past a number from before it
  abbrev pub IsClear : ℕ → Type 0
  IsClear at = (first length : ℕ) → runs first ≡ Some length → first < at → first + length ≤ at

  free-between : (at to : ℕ) → IsClear at → ((first : ℕ) → at ≤ first → first < to → runs first ≡ None) → (c : ℕ)
      → at ≤ c
      → c < to → is_covered runs c ≡ false
  free-between at to clear none c from below = covered-no runs c (λ run.
      elim (cases_lt run.first at) [
        | inl before ↦ omega (arith, clear run.first run.length run.is before, run.ends, from)
        | inr later ↦ let no_run = none run.first later (omega (arith, run.begins, below)) in let is = run.is in cc
      ])

  none-between : (at to : ℕ) → at ≤ to → IsClear at → ((first : ℕ) → at ≤ first → first < to → runs first ≡ None)
      → count_where (is_covered runs) to ≡ count_where (is_covered runs) at
  none-between at to up clear none =
      let same : to ≡ at + (to - at) = omega (arith, up) in
      ap (count_where (is_covered runs)) same
      ∙ count-none (is_covered runs) at (to - at)
      (λ c from below. free-between at to clear none c from (omega (arith, below, up)))

  all-of-run : (first length to : ℕ) → runs first ≡ Some length → first ≤ to → to ≤ first + length
      → count_where (is_covered runs) to ≡ count_where (is_covered runs) first + (to - first)
  all-of-run first length to is from up =
      let same : to ≡ first + (to - first) = omega (arith, from) in
      ap (count_where (is_covered runs)) same
      ∙ count-all (is_covered runs) first (to - first)
      (λ c begins below. covered-yes runs c first length is begins (omega (arith, below, up, from)))

  clear-end : (first length : ℕ) → runs first ≡ Some length → IsClear (first + length)
  clear-end first length is other more other_is before =
      elim (cases_lt other first) [
        | inl front ↦ omega (arith, are.apart other more first length other_is is front)
        | inr from ↦ elim (cases_eq other first) [
          | inl same ↦ let equal = same-some more length (runs first) (ap runs (sym same) ∙ other_is) is in
              omega (arith, same, equal)
          | inr differ ↦ let later = are.apart first length other more is other_is (omega (arith, from, differ)) in
              omega (arith, later, before)
        ]
      ]

  none-inside : (first length : ℕ) → runs first ≡ Some length → (n : ℕ) → suc first ≤ n → n < first + length
      → runs n ≡ None
  none-inside first length is n from below = none (runs n) refl
    where
      none : (o : Option ℕ) → runs n ≡ o → o ≡ None
      none None same = refl
      none (Some more) same = let later = are.apart first length n more is same (omega (arith, from)) in
          absurd (omega (arith, later, below))

  last-run : (first length limit : ℕ) (rest : List (ℕ × ℕ)) → runs first ≡ Some length → limit < first + length
      → Follows runs (suc first) limit rest → clipped limit rest ≡ 0
  last-run first length limit [] is past follows = refl
  last-run first length limit (run ∷ rest) is past follows =
      let later = are.apart first length run.0 run.1 is follows.2 (omega (arith, follows.0)) in
      absurd (omega (arith, later, past, follows.1))

  -- from a number on, below a limit, the runs have so many numbers as each has
  pub count-clipped : (at limit : ℕ) (rest : List (ℕ × ℕ)) → at ≤ limit → IsClear at → Follows runs at limit rest
      → count_where (is_covered runs) limit ≡ count_where (is_covered runs) at + clipped limit rest
  count-clipped at limit [] up clear follows = none-between at limit up clear follows ∙ omega arith
  count-clipped at limit (run ∷ rest) up clear follows =
      let front = none-between at run.0 follows.0 clear follows.3 in
      elim (cases_lt limit (run.0 + run.1)) [
        | inl past ↦
            let whole = all-of-run run.0 run.1 limit follows.2 (omega (arith, follows.1)) (omega (arith, past)) in
            let none = last-run run.0 run.1 limit rest follows.2 past follows.4 in
            omega (arith, front, whole, none, past)
        | inr within ↦
            let whole = all-of-run run.0 run.1 (run.0 + run.1) follows.2 (omega arith) (omega arith) in
            let some = are.some run.0 run.1 follows.2 in
            let later = follows-later runs (suc run.0) (run.0 + run.1) limit rest (omega (arith, some))
            (none-inside run.0 run.1 follows.2) follows.4 in
            let behind = count-clipped (run.0 + run.1) limit rest within (clear-end run.0 run.1 follows.2) later in
            omega (arith, front, whole, behind, within)
      ]

-- tests with the same answers count the same
pub count-same : (f g : ℕ → Bool) (n : ℕ) → ((c : ℕ) → f c ≡ g c) → count_where f n ≡ count_where g n
count-same f g zero same = refl
count-same f g (suc n) same = ap₂ (λ count b. count + (if b then 1 else 0)) (count-same f g n same) (same n)
