-- The order of the keys of runs, as what a map's calls say of it.
use Rattle.std.proofs.Common.{◌≡◌, ◌≢◌, ◌≤◌, ℕ, false, Option, Some, None, IsSome, inl, inr, refl, sym, ap, arith}
use Rattle.std.proofs.lemmas.Bool.{cases_eq, cases_lt}
use Rattle.std.specs.BTreeMap.{is_at}
use Rattle.std.specs.Cmp.{nat_cmp_is}
use Rattle.std.specs.Ordering.{nat_cmp, is_eq, is_gt}
use Rattle.std.specs.declared.cmp.Ordering.TheVariants.{Less, Equal, Greater}

-- a number that isn't above another doesn't compare as greater
pub not_gt-from-le : (a b : ℕ) → a ≤ b → is_gt (nat_cmp a b) ≡ false
not_gt-from-le a b le =
    elim (cases_eq a b) [
      | inl same ↦ ap is_gt (sym (nat_cmp_is a b Equal same))
      | inr differ ↦ ap is_gt (sym (nat_cmp_is a b Less (omega (arith, le, differ))))
    ]

-- what isn't some is none
pub none-from-not_some : (o : Option ℕ) → (IsSome o → ⊥) → o ≡ None
none-from-not_some None not = refl
none-from-not_some (Some x) not = absurd (not refl)

-- a number doesn't compare as equal to another
pub not_at : (a b : ℕ) → a ≢ b → is_at (nat_cmp a) b ≡ false
not_at a b differ =
    elim (cases_lt a b) [
      | inl less ↦ ap is_eq (sym (nat_cmp_is a b Less less))
      | inr up ↦ ap is_eq (sym (nat_cmp_is a b Greater (omega (arith, up, differ))))
    ]
