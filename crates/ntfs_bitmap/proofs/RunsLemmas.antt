-- Which clusters runs have: those of one run, and after a run was joined.
use Rattle.std.proofs.Common.{◌≡◌, ◌≢◌, ◌+◌, ◌-◌, ◌<◌, ◌≤◌, ◌||◌, ◌⊎◌, inl, inr, ℕ, zero, suc, Bool, true, false, Option, Some, None, IsSome, refl, sym, ap, ◌∙◌, arith}
use Rattle.std.proofs.lemmas.Bool.{cases_eq, cases_lt, lt-ltb, ltb-true}
use Rattle.std.specs.BTreeMap.{BTreeMap, IsEmpty, IsUnchanged, is_at}
use Rattle.std.specs.Map.{lookup}
use Rattle.std.specs.Ordering.{nat_cmp}
use Rattle.ntfs_bitmap.specs.Runs.{Lengths, AreLongestRuns, IsEndAt, IsLastUpTo, IsNextFirst, covers, is_covered, is_covered_from, lengths_of}

-- a truth value is true or false
pub true_or_false : (b : Bool) → (b ≡ true) ⊎ (b ≡ false)
true_or_false true = inl refl
true_or_false false = inr refl

-- two truth values of which each is true where the other is
pub same-from-both : (a b : Bool) → (a ≡ true → b ≡ true) → (b ≡ true → a ≡ true) → a ≡ b
same-from-both true b to back = sym (to refl)
same-from-both false true to back = back refl
same-from-both false false to back = refl

pub or-left : (a b : Bool) → a ≡ true → a || b ≡ true
or-left true b is = refl
or-left false b is = cc

pub or-right : (a b : Bool) → b ≡ true → a || b ≡ true
or-right true b is = refl
or-right false b is = is

pub or-cases : (a b : Bool) → a || b ≡ true → (a ≡ true) ⊎ (b ≡ true)
or-cases true b is = inl refl
or-cases false b is = inr is

module _ (runs : Lengths) where
  -- a run that has a cluster
  pub record HasRun (cluster : ℕ) : Type 0 where
    pub first : ℕ
    pub length : ℕ
    pub is : runs first ≡ Some length
    pub begins : first ≤ cluster
    pub ends : cluster < first + length

  covers-some : (cluster first length : ℕ) → runs first ≡ Some length → cluster < first + length
      → covers (runs first) first cluster ≡ true
  covers-some cluster first length is ends = ap (λ o. covers o first cluster) is ∙ lt-ltb cluster (first + length) ends

  some-covers : (cluster first : ℕ) (o : Option ℕ) → runs first ≡ o → first ≤ cluster → covers o first cluster ≡ true
      → HasRun cluster
  some-covers cluster first None is begins has = cc
  some-covers cluster first (Some length) is begins has =
      record { first = first; length = length; is = is; begins = begins; ends = ltb-true cluster (first + length) has }

  covered-up_to : (cluster top first length : ℕ) → runs first ≡ Some length → first ≤ top → cluster < first + length
      → is_covered_from runs cluster top ≡ true
  covered-up_to cluster zero first length is up ends =
      let none : first ≡ 0 = omega arith in covers-some cluster 0 length (ap runs (sym none) ∙ is) (omega arith)
  covered-up_to cluster (suc top) first length is up ends =
      elim (cases_eq first (suc top)) [
        | inl same ↦ or-left _ _
            (covers-some cluster (suc top) length (ap runs (sym same) ∙ is) (omega (arith, same, ends)))
        | inr differ ↦ or-right (covers (runs (suc top)) (suc top) cluster) _
            (covered-up_to cluster top first length is (omega (arith, differ, up)) ends)
      ]

  run-from : (cluster top : ℕ) → top ≤ cluster → is_covered_from runs cluster top ≡ true → HasRun cluster
  run-from cluster zero up has = some-covers cluster 0 (runs 0) refl (omega arith) has
  run-from cluster (suc top) up has =
      elim (or-cases (covers (runs (suc top)) (suc top) cluster) _ has) [
        | inl here ↦ some-covers cluster (suc top) (runs (suc top)) refl up here
        | inr below ↦ run-from cluster top (omega (arith, up)) below
      ]

  -- a run has each cluster from its first one up to its end
  pub covered-yes : (cluster first length : ℕ) → runs first ≡ Some length → first ≤ cluster → cluster < first + length
      → is_covered runs cluster ≡ true
  unfolding is_covered
  covered-yes cluster first length is begins ends = covered-up_to cluster cluster first length is begins ends

  -- a cluster that is in has its run
  pub covered-run : (cluster : ℕ) → is_covered runs cluster ≡ true → HasRun cluster
  unfolding is_covered
  covered-run cluster has = run-from cluster cluster (omega arith) has

  -- a cluster that no run has
  pub covered-no : (cluster : ℕ) → (HasRun cluster → ⊥) → is_covered runs cluster ≡ false
  covered-no cluster none =
      elim (true_or_false (is_covered runs cluster)) [ inl is ↦ absurd (none (covered-run cluster is)) | inr is ↦ is ]

  -- and the run that it then can't have
  pub no-run : (cluster : ℕ) → is_covered runs cluster ≡ false → HasRun cluster → ⊥
  no-run cluster free run =
      let is = covered-yes cluster run.first run.length run.is run.begins run.ends in cc

pub same-some : (a b : ℕ) (o : Option ℕ) → o ≡ Some a → o ≡ Some b → a ≡ b
same-some a b o is so = let both : Some a ≡ Some b = sym is ∙ so in cc

module _ (bound : ℕ) (runs : Lengths) (are : AreLongestRuns bound runs) where
  -- a run that ends before a cluster, and is the last up to it, leaves it free
  pub past-last : (cluster first length : ℕ) → IsLastUpTo runs cluster first length → first + length ≤ cluster
      → is_covered runs cluster ≡ false
  past-last cluster first length last past = covered-no runs cluster (λ run.
      elim (cases_lt first run.first) [
        | inl later ↦ let none = last.last run.first run.begins later in let is = run.is in cc
        | inr up ↦ elim (cases_eq run.first first) [
          | inl same ↦ let length_same = same-some run.length length (runs first)
              (ap runs (sym same) ∙ run.is) last.is in
              omega (arith, run.ends, same, length_same, past)
          | inr differ ↦ let apart = are.apart run.first run.length first length run.is last.is
              (omega (arith, up, differ)) in
              omega (arith, apart, run.ends, last.begins)
        ]
      ])

  -- where no run begins up to a cluster, it is free
  pub before-all : (cluster : ℕ) → ((first : ℕ) → first ≤ cluster → runs first ≡ None) → is_covered runs cluster ≡ false
  before-all cluster none = covered-no runs cluster (λ run. let is = run.is in let no = none run.first run.begins in cc)

  -- all numbers up to the end of a run that has a cluster are in, and the number at its end isn't
  pub in-run : (cluster end : ℕ) → IsEndAt runs cluster end → (n : ℕ) → cluster ≤ n → n < end → is_covered runs n ≡ true
  in-run cluster end run n from below =
      covered-yes runs n run.first (end - run.first) run.is (omega (arith, run.begins, from))
      (omega (arith, run.begins, run.ends, below))

  pub run-ends : (cluster end : ℕ) → IsEndAt runs cluster end → is_covered runs end ≡ false
  run-ends cluster end run = covered-no runs end (λ other.
      elim (cases_lt run.first other.first) [
        | inl later ↦ let apart = are.apart run.first
            (end - run.first) other.first other.length run.is other.is later in
            omega (arith, apart, other.begins, run.begins, run.ends)
        | inr up ↦ elim (cases_eq other.first run.first) [
          | inl same ↦
              let length_same = same-some other.length (end - run.first) (runs run.first)
              (ap runs (sym same) ∙ other.is) run.is in
              omega (arith, other.ends, same, length_same, run.begins, run.ends)
          | inr differ ↦
              let apart = are.apart other.first other.length run.first (end - run.first) other.is run.is
              (omega (arith, up, differ)) in
              omega (arith, apart, other.ends, run.begins, run.ends)
        ]
      ])

  -- from a free cluster on, all numbers up to where the next run begins are free
  pub free-up_to : (cluster next : ℕ) → is_covered runs cluster ≡ false → IsNextFirst bound runs cluster next → (n : ℕ)
      → cluster ≤ n → n < next → is_covered runs n ≡ false
  free-up_to cluster next free is n from below = covered-no runs n (λ run.
      elim (cases_lt run.first cluster) [
        | inl before ↦ elim (cases_lt cluster (run.first + run.length)) [
          | inl inside ↦ no-run runs cluster free
              (record {
                first = run.first;
                length = run.length;
                is = run.is;
                begins = omega (arith, before);
                ends = inside;
              })
          | inr past ↦ omega (arith, past, run.ends, from)
        ]
        | inr later ↦ let none = is.none_between run.first later
            (omega (arith, run.begins, below)) in let some = run.is in cc
      ])

  some-is : (o : Option ℕ) → IsSome o → (length : ℕ) × (o ≡ Some length)
  some-is None is = cc
  some-is (Some length) is = (length, refl)

  pub next-begins : (cluster next : ℕ) → IsNextFirst bound runs cluster next → next < bound
      → is_covered runs next ≡ true
  next-begins cluster next is below =
      let run = some-is (runs next) (is.begins below) in
      covered-yes runs next next run.0 run.1 (omega arith) (omega (arith, are.some next run.0 run.1))

  pub next-later : (cluster next : ℕ) → cluster < bound → is_covered runs cluster ≡ false
      → IsNextFirst bound runs cluster next
      → cluster < next
  next-later cluster next below free is =
      elim (cases_lt cluster next) [
        | inl later ↦ later
        | inr up ↦
            let same : next ≡ cluster = omega (arith, up, is.from) in
            let has = next-begins cluster next is (omega (arith, same, below)) in
            let no : is_covered runs next ≡ false = ap (is_covered runs) same ∙ free in cc
      ]

  -- no run ends where a cluster begins, if the last up to it doesn't
  pub none-ends : (cluster first length : ℕ) → IsLastUpTo runs cluster first length → length ≢ cluster - first
      → (other more : ℕ) → runs other ≡ Some more → other + more ≡ cluster → ⊥
  none-ends cluster first length last differ other more is ends =
      let some = are.some other more is in
      let begins = last.begins in
      elim (cases_lt first other) [
        | inl later ↦ let none = last.last other (omega (arith, ends)) later in cc
        | inr up ↦ elim (cases_eq other first) [
          | inl same ↦ let length_same = same-some more length (runs first) (ap runs (sym same) ∙ is) last.is in
              differ (omega (arith, ends, same, length_same))
          | inr apart ↦ let before = are.apart other more first length is last.is (omega (arith, up, apart)) in
              omega (arith, before, ends, begins)
        ]
      ]

-- an empty map has no clusters
pub empty-covers_none : (runs : BTreeMap ℕ ℕ) → IsEmpty runs → (cluster : ℕ) → is_covered
    (lengths_of runs) cluster ≡ false
empty-covers_none runs empty cluster = covered-no (lengths_of runs) cluster (λ run.
    let none : lengths_of runs run.first ≡ None = ap (lookup (is_at (nat_cmp run.first))) empty in
    let is = run.is in cc)

-- maps with the same entries have the same lengths
pub lengths-same : (old new : BTreeMap ℕ ℕ) → IsUnchanged old new → (first : ℕ)
    → lengths_of new first ≡ lengths_of old first
lengths-same old new same first = ap (lookup (is_at (nat_cmp first))) same

-- runs below a bound are below a larger one
pub AreRuns-wider : (bound wider : ℕ) (runs : Lengths) → bound ≤ wider → AreLongestRuns bound runs → AreLongestRuns wider runs
AreRuns-wider bound wider runs le are = record {
  some = are.some;
  within = λ first length is. omega (arith, le, are.within first length is);
  apart = are.apart;
}
