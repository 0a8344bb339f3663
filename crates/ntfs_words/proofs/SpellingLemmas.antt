-- What stands first in the spelling of a number.
use Rattle.std.proofs.Common.{◌≡◌, ◌==◌, ℕ, Bool, true, false, List, [], ◌∷◌, refl, sym, Some, None, arith, subst}
use Rattle.std.proofs.lemmas.Bool.{eqb-true}
use Rattle.std.proofs.lemmas.Bool.Decides.{nat_tests}
use Rattle.ntfs_words.specs.Numbers.{all_digits, are_digits, digits_of, number_of}

no_digits_with : (most : ℕ) (text : List ℕ) → all_digits 10 text ≡ false → digits_of 10 most text ≡ None
unfolding digits_of are_digits
no_digits_with most text none = grind (arith, nat_tests, none)

pub hyphen_first : (text : List ℕ) → number_of (45 ∷ text) ≡ None
unfolding number_of all_digits
hyphen_first text = no_digits_with 20 (45 ∷ text) refl

pub equals_first : (text : List ℕ) → number_of (61 ∷ text) ≡ None
unfolding number_of all_digits
equals_first text = no_digits_with 20 (61 ∷ text) refl

pub nothing_spells : (n : ℕ) → number_of [] ≡ Some n → ⊥
unfolding number_of digits_of are_digits
nothing_spells n is = absurd cc

-- a mark that no number begins with
pub first_differs : (mark d : ℕ) (text : List ℕ) (n : ℕ) → ((text : List ℕ) → number_of (mark ∷ text) ≡ None) → number_of (d ∷ text) ≡ Some n → (d == mark) ≡ false
first_differs mark d text n none is = go (d == mark) refl
  where
    go : (b : Bool) → (d == mark) ≡ b → b ≡ false
    go false e = refl
    go true e =
        let same : d ≡ mark = eqb-true d mark e in
        let nothing : number_of (d ∷ text) ≡ None = subst (λ (c : ℕ). number_of (c ∷ text) ≡ None) (sym same) (none text) in
        absurd cc
