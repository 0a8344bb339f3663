-- How many numbers weren't met falls when one more is.
use Rattle.std.proofs.Common.{◌≡◌, ◌+◌, ◌<◌, ◌≤◌, ℕ, zero, suc, Bool, true, false, cond, ltb, ◌==◌, List, if◌then◌else◌, refl, sym, ap, ◌∙◌, arith, inl, inr}
use Rattle.std.specs.BTreeMap.{is_at}
use Rattle.std.specs.List.{list_any}
use Rattle.std.specs.Ordering.{nat_cmp, is_eq}
use Rattle.std.specs.declared.cmp.Ordering.TheVariants.{Less, Equal, Greater}
use Rattle.std.proofs.lemmas.Bool.{cases_Bool, cond_both, eq-eqb, eqb-false, eqb-true, ltb-true, ne_eqb}
use Rattle.ntfs_show.specs.Descent.{MeetsOne, unmet}
use Rattle.ntfs_show.specs.Listing.{was_entered}

nat_cmp-is_eq : (x y : ℕ) → is_eq (nat_cmp x y) ≡ (x == y)
nat_cmp-is_eq x y =
    cond_both (ltb x y) Less (cond (x == y) Equal Greater) (λ r. is_eq r ≡ (x == y))
    (λ less. sym (ne_eqb x y (λ same. absurd (omega (arith, ltb-true x y less, same)))))
    (λ other. cond_both (x == y) Equal Greater (λ r. is_eq r ≡ (x == y)) (λ same. sym same) (λ apart. sym apart))

step-le : (is was least : Bool) → is ≡ cond least true was → (if is then 0 else 1) ≤ (if was then 0 else 1)
step-le true true least same = omega arith
step-le true false least same = omega arith
step-le false true true same = absurd cc
step-le false true false same = absurd cc
step-le false false least same = omega arith

pub unmet-le : (n number : ℕ) (old new : List ℕ) → MeetsOne number old new → unmet n new ≤ unmet n old
unfolding unmet
unmet-le zero number old new meets = omega arith
unmet-le (suc n) number old new meets =
    let rest = unmet-le n number old new meets in
    let last = step-le (was_entered n new) (was_entered n old) (is_at (nat_cmp number) n) (meets.updates n) in
    omega (arith, rest, last)

one-most : (is : Bool) → (if is then 0 else 1) ≤ 1
one-most true = omega arith
one-most false = omega arith

pub unmet-most : (n : ℕ) (met : List ℕ) → unmet n met ≤ n
unfolding unmet
unmet-most zero met = omega arith
unmet-most (suc n) met =
    let rest = unmet-most n met in
    let last = one-most (was_entered n met) in
    omega (arith, rest, last)

-- the number itself is met then
pub one-met : (number : ℕ) (old new : List ℕ) → MeetsOne number old new → was_entered number new ≡ true
one-met number old new meets =
    meets.updates number
    ∙ ap (λ is. cond is true (was_entered number old)) (nat_cmp-is_eq number number ∙ eq-eqb number number refl)

below-last : (number n : ℕ) → number < suc n → (number ≡ n → ⊥) → number < n
below-last number n within other = omega (arith, within, other)

pub unmet-less : (n number : ℕ) (old new : List ℕ) → MeetsOne number old new → number < n
    → was_entered number old ≡ false → unmet n new < unmet n old
unfolding unmet
unmet-less zero number old new meets within apart = absurd (omega arith)
unmet-less (suc n) number old new meets within apart = elim (cases_Bool (number == n)) [
  | inl same ↦
      let is : number ≡ n = eqb-true number n same in
      let rest = unmet-le n number old new meets in
      let now : was_entered n new ≡ true = ap (λ m. was_entered m new) (sym is) ∙ one-met number old new meets in
      let was : was_entered n old ≡ false = ap (λ m. was_entered m old) (sym is) ∙ apart in
      rw (now, was) (omega (arith, rest))
  | inr other ↦
      let less = unmet-less n number old new meets (below-last number n within (eqb-false number n other)) apart in
      let last = step-le (was_entered n new) (was_entered n old) (is_at (nat_cmp number) n) (meets.updates n) in
      omega (arith, less, last)
]
