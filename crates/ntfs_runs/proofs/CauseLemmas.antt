-- A header is wrong exactly where it has a cause.
use Rattle.std.proofs.Common.{◌≡◌, ◌≤◌, ◌<◌, ◌+◌, ◌/◌, ◌%◌, ◌^◌, ◌+ℤ◌, ◌<ℤ◌, ◌⊎◌, ℕ, zero, suc, ℤ, pos, negsuc, List, [], ◌∷◌, length, drop, Bool, true, false, cond, eqb, refl, sym, ap, ◌∙◌, arith, inl, inr}
use Rattle.std.specs.Prelude.{Option, Some, None, option_map}
use Rattle.std.proofs.lemmas.Bool.{cases_lt, eqb-false}
use Rattle.std.proofs.lemmas.Bool.Decides.{nat_tests}
use Rattle.std.proofs.lemmas.Int.{ints}
use Rattle.ntfs_runs.specs.declared.front.Front.TheVariants.{Closing, Wrong}
use Rattle.ntfs_runs.specs.Number.{signed, between}
use Rattle.ntfs_runs.specs.Spelling.{IsWrongHeader, HasPairCause, IsCaused}
use Rattle.ntfs_runs.specs.Reading.{length_in, lcn_in, front_of, has_sizes, pair_in, front_at}
use Rattle.ntfs_runs.proofs.NumberLemmas.{between-pos, between-low, between-high}
use Rattle.ntfs_runs.proofs.FrontLemmas.{chosen, SizesAreRight, sizes-right, right-sizes}
use Rattle.ntfs_runs.proofs.ReadingLemmas.{wrong-is, is-wrong}

-- a number that isn't between two others
between-none : (low high : ℕ) (z : ℤ) → between low high z ≡ None → (z <ℤ pos low) ⊎ (pos high <ℤ z)
unfolding between
between-none low high (negsuc k) e = inl (omega (arith, ints))
between-none low high (pos k) e =
    elim (cases_lt k low) [
      | inl below ↦ inl (omega (arith, ints))
      | inr from ↦ elim (cases_lt high k) [
        | inl above ↦ inr (omega (arith, ints))
        | inr to ↦ let found = between-pos low high k from to in absurd (none-some k (sym e ∙ found))
      ]
    ]
  where
    none-some : (k : ℕ) → None ≡ Some k → ⊥
    none-some k e = cc

none-between : (low high : ℕ) (z : ℤ) → low ≤ suc high → (z <ℤ pos low) ⊎ (pos high <ℤ z) → between low high z ≡ None
unfolding between
none-between low high (negsuc k) order cause = refl
none-between low high (pos k) order (inl below) = between-low low high k (omega (arith, ints))
none-between low high (pos k) order (inr above) = between-high low high k (omega (arith, ints)) (omega (arith, ints))

-- no run comes from a length or an LCN that isn't there
front_of-wrong : (size : ℕ) (count : Option ℕ) (lcn : Option (Option ℕ)) → front_of size count lcn ≡ Wrong → (count ≡ None) ⊎ (lcn ≡ None)
front_of-wrong size None lcn e = inl refl
front_of-wrong size (Some c) None e = inr refl
front_of-wrong size (Some c) (Some l) e = absurd cc

wrong-front_of : (size : ℕ) (count : Option ℕ) (lcn : Option (Option ℕ)) → (count ≡ None) ⊎ (lcn ≡ None) → front_of size count lcn ≡ Wrong
wrong-front_of size None lcn is = refl
wrong-front_of size (Some c) None is = refl
wrong-front_of size (Some c) (Some l) (inl is) = absurd cc
wrong-front_of size (Some c) (Some l) (inr is) = absurd cc

lcn_in-none : (last m : ℕ) (bytes : List ℕ) → lcn_in last m bytes ≡ None → (0 < m) × (((pos last +ℤ signed m bytes) <ℤ pos 0) ⊎ (pos (2 ^ 48) <ℤ (pos last +ℤ signed m bytes)))
lcn_in-none last zero bytes e = absurd cc
lcn_in-none last (suc m) bytes e = (omega arith, between-none 0 (2 ^ 48) (pos last +ℤ signed (suc m) bytes) (of (between 0 (2 ^ 48) (pos last +ℤ signed (suc m) bytes)) e))
  where
    of : (o : Option ℕ) → option_map Some o ≡ None → o ≡ None
    of None e = refl
    of (Some k) e = absurd cc

none-lcn_in : (last m : ℕ) (bytes : List ℕ) → (0 < m) × (((pos last +ℤ signed m bytes) <ℤ pos 0) ⊎ (pos (2 ^ 48) <ℤ (pos last +ℤ signed m bytes))) → lcn_in last m bytes ≡ None
none-lcn_in last zero bytes (some, cause) = absurd (omega arith)
none-lcn_in last (suc m) bytes (some, cause) = ap (option_map Some) (none-between 0 (2 ^ 48) (pos last +ℤ signed (suc m) bytes) (omega arith) cause)

-- a pair that is read as wrong has a cause
cause-of : (last room n m : ℕ) (rest : List ℕ) → pair_in last room n m rest ≡ Wrong → HasPairCause last room n m rest
unfolding pair_in
cause-of last room n m rest e =
    elim (cases_lt 0 n) [
      | inr none ↦ inl (omega arith)
      | inl some ↦ elim (cases_lt 8 n) [
        | inl wide ↦ inr (inl wide)
        | inr count ↦ elim (cases_lt 8 m) [
          | inl wide ↦ inr (inr (inl wide))
          | inr delta ↦ elim (cases_lt (length rest) (n + m)) [
            | inl short ↦ inr (inr (inr (inl short)))
            | inr within ↦
                let right : SizesAreRight n m (length rest) = record { least = some; most = count; delta = delta; within = within } in
                let gives = rw (right-sizes n m (length rest) right) at e in
                elim (front_of-wrong (1 + n + m) (length_in room n rest) (lcn_in last m (drop n rest)) gives) [
                  | inl none ↦ elim (between-none 1 room (signed n rest) none) [
                    | inl low ↦ inr (inr (inr (inr (inl low))))
                    | inr high ↦ inr (inr (inr (inr (inr (inl high)))))
                  ]
                  | inr none ↦ inr (inr (inr (inr (inr (inr (lcn_in-none last m (drop n rest) none))))))
                ]
          ]
        ]
      ]
    ]

-- a pair that has a cause is read as wrong
wrong-of : (last room n m : ℕ) (rest : List ℕ) → HasPairCause last room n m rest → pair_in last room n m rest ≡ Wrong
unfolding pair_in
wrong-of last room n m rest cause = of (has_sizes n m (length rest)) refl
  where
    of : (t : Bool) → has_sizes n m (length rest) ≡ t → cond t (front_of (1 + n + m) (length_in room n rest) (lcn_in last m (drop n rest))) Wrong ≡ Wrong
    of false is = refl
    of true is =
        let right = sizes-right n m (length rest) is in
        elim cause [
          | inl none ↦ absurd (omega (arith, right.least))
          | inr (inl wide) ↦ absurd (omega (arith, right.most))
          | inr (inr (inl wide)) ↦ absurd (omega (arith, right.delta))
          | inr (inr (inr (inl short))) ↦ absurd (omega (arith, right.within))
          | inr (inr (inr (inr (inl low)))) ↦ wrong-front_of (1 + n + m) (length_in room n rest) (lcn_in last m (drop n rest)) (inl (none-between 1 room (signed n rest) (omega arith) (inl low)))
          | inr (inr (inr (inr (inr (inl high))))) ↦ wrong-front_of (1 + n + m) (length_in room n rest) (lcn_in last m (drop n rest)) (inl (none-between 1 room (signed n rest) (omega arith) (inr high)))
          | inr (inr (inr (inr (inr (inr lcn))))) ↦ wrong-front_of (1 + n + m) (length_in room n rest) (lcn_in last m (drop n rest)) (inr (none-lcn_in last m (drop n rest) lcn))
        ]

pub wrong-caused : (last room : ℕ) (bytes : List ℕ) → IsWrongHeader last room bytes → IsCaused last room bytes
unfolding front_at
wrong-caused last room [] wrong = tt
wrong-caused last room (header ∷ rest) wrong =
    elim (chosen (eqb header 0) Closing (pair_in last room (header % 16) (header / 16) rest) Wrong (is-wrong last room (header ∷ rest) wrong)) [
      | inl (test, closing) ↦ absurd cc
      | inr (test, gives) ↦ (eqb-false header 0 test, cause-of last room (header % 16) (header / 16) rest gives)
    ]

pub caused-wrong : (last room : ℕ) (bytes : List ℕ) → IsCaused last room bytes → IsWrongHeader last room bytes
unfolding front_at
caused-wrong last room [] caused = wrong-is last room [] refl
caused-wrong last room (header ∷ rest) (some, cause) =
    let test : eqb header 0 ≡ false = grind (arith, nat_tests) in
    wrong-is last room (header ∷ rest) (rw test (wrong-of last room (header % 16) (header / 16) rest cause))
