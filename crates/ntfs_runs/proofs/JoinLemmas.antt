-- Joining runs from left to right gives the longest runs of their cells.
use Rattle.std.proofs.Common.{◌≡◌, ◌≤◌, ◌-◌, ℕ, zero, suc, List, [], ◌∷◌, ◌++◌, Bool, true, false, cond, refl, sym, ap, ◌∙◌, arith}
use Rattle.std.specs.Prelude.{Option, Some, None}
use Rattle.std.proofs.lemmas.Bool.{eqb-true}
use Rattle.std.proofs.lemmas.Bool.Decides.{nat_tests}
use Rattle.ntfs_runs.specs.declared.run.Run.{Run}
use Rattle.ntfs_runs.specs.Clusters.{behind, row, vcns, FitFrom}
use Rattle.ntfs_runs.specs.Canon.{same_cell, goes_on, both, in_front, runs_of, AreMaximal}
use Rattle.ntfs_runs.specs.Writing.{join_onto, joined_from}
use Rattle.ntfs_runs.proofs.ClustersLemmas.{behind-behind}

pub same-cells : (a b : Option ℕ) → same_cell a b ≡ true → a ≡ b
same-cells None None e = refl
same-cells None (Some l) e = absurd cc
same-cells (Some k) None e = absurd cc
same-cells (Some k) (Some l) e = ap Some (eqb-true k l e)

-- what goes on from two joined runs goes on from the second
pub goes_on-both : (a b c : Run) → goes_on a b ≡ true → goes_on (both a b) c ≡ goes_on b c
goes_on-both a b c e =
    ap (λ (cell : Option ℕ). same_cell cell c.lcn) (sym (behind-behind a.lcn a.length b.length) ∙ ap (λ (cell : Option ℕ). behind cell b.length) (same-cells (behind a.lcn a.length) b.lcn e))

abbrev pub run_with : ℕ → Option ℕ → Run
run_with count lcn = record { length = count; lcn = lcn }

both-both : (a b c : Run) → both (both a b) c ≡ both a (both b c)
both-both a b c = ap (λ (n : ℕ). run_with n a.lcn) (omega arith)

-- a run in front of another that goes on from it
pub in_front-joined : (a b : Run) (runs : List Run) → goes_on a b ≡ true → in_front a (in_front b runs) ≡ in_front (both a b) runs
in_front-joined a b [] e = rw e refl
in_front-joined a b (c ∷ runs) e = of (goes_on b c) refl
  where
    of : (t : Bool) → goes_on b c ≡ t → in_front a (cond t (both b c ∷ runs) (b ∷ c ∷ runs)) ≡ in_front (both a b) (c ∷ runs)
    of true is =
        let joins = goes_on-both a b c e in
        rw (joins, is, e) (ap (λ (r : Run). r ∷ runs) (sym (both-both a b c)))
    of false is =
        let joins = goes_on-both a b c e in
        rw (joins, is, e) refl

-- a run in front of another that doesn't
pub in_front-apart : (a b : Run) (runs : List Run) → goes_on a b ≡ false → in_front a (in_front b runs) ≡ a ∷ in_front b runs
in_front-apart a b [] e = rw e refl
in_front-apart a b (c ∷ runs) e = of (goes_on b c) refl
  where
    of : (t : Bool) → goes_on b c ≡ t → in_front a (cond t (both b c ∷ runs) (b ∷ c ∷ runs)) ≡ a ∷ cond t (both b c ∷ runs) (b ∷ c ∷ runs)
    of true is = rw e refl
    of false is = rw e refl

same-refl : (a : Option ℕ) → same_cell a a ≡ true
same-refl None = refl
same-refl (Some k) = grind (arith, nat_tests)

-- the runs of a row of cells in front of others
pub runs_of-row : (n : ℕ) (cell : Option ℕ) (cells : List (Option ℕ)) → 1 ≤ n → runs_of (row n cell ++ cells) ≡ in_front (run_with n cell) (runs_of cells)
unfolding runs_of row
runs_of-row zero cell cells some = absurd (omega arith)
runs_of-row (suc zero) cell cells some = refl
runs_of-row (suc (suc n)) cell cells some =
    let others = runs_of-row (suc n) (behind cell 1) cells (omega arith) in
    let joins = in_front-joined (run_with 1 cell) (run_with (suc n) (behind cell 1)) (runs_of cells) (same-refl (behind cell 1)) in
    ap (in_front (run_with 1 cell)) others ∙ joins ∙ ap (λ (k : ℕ). in_front (run_with k cell) (runs_of cells)) (omega arith)

pub runs_of-vcns : (run : Run) (runs : List Run) → 1 ≤ run.length → runs_of (vcns (run ∷ runs)) ≡ in_front run (runs_of (vcns runs))
unfolding vcns
runs_of-vcns run runs some = runs_of-row run.length run.lcn (vcns runs) some

-- a run that waits and the runs that follow it
join_onto-is : (run : Run) (room : ℕ) (runs : List Run) → FitFrom room runs → join_onto run runs ≡ in_front run (runs_of (vcns runs))
unfolding runs_of vcns
join_onto-is run room [] fits = refl
join_onto-is run room (next ∷ runs) fits = of (goes_on run next) refl (λ r. join_onto-is r (room - next.length) runs fits.3)
  where
    of : (t : Bool) → goes_on run next ≡ t → ((r : Run) → join_onto r runs ≡ in_front r (runs_of (vcns runs)))
        → cond t (join_onto (both run next) runs) (run ∷ join_onto next runs) ≡ in_front run (runs_of (vcns (next ∷ runs)))
    of true is others = others (both run next) ∙ sym (in_front-joined run next (runs_of (vcns runs)) is) ∙ ap (in_front run) (sym (runs_of-vcns next runs fits.0))
    of false is others =
        ap (λ (rest : List Run). run ∷ rest) (others next) ∙ sym (in_front-apart run next (runs_of (vcns runs)) is) ∙ ap (in_front run) (sym (runs_of-vcns next runs fits.0))

-- all runs, joined, are the longest runs of their cells
pub joined_from-is : (room : ℕ) (runs : List Run) → FitFrom room runs → joined_from None runs ≡ runs_of (vcns runs)
unfolding runs_of vcns
joined_from-is room [] fits = refl
joined_from-is room (run ∷ runs) fits = join_onto-is run (room - run.length) runs fits.3 ∙ sym (runs_of-vcns run runs fits.0)

-- runs of which no neighbours can be joined are the longest already
pub runs_of-apart : (room : ℕ) (runs : List Run) → FitFrom room runs → AreMaximal runs → runs_of (vcns runs) ≡ runs
unfolding runs_of vcns
runs_of-apart room [] fits apart = refl
runs_of-apart room (run ∷ []) fits apart = runs_of-vcns run [] fits.0
runs_of-apart room (run ∷ next ∷ runs) fits apart =
    let others = runs_of-apart (room - run.length) (next ∷ runs) fits.3 apart.1 in
    runs_of-vcns run (next ∷ runs) fits.0 ∙ ap (in_front run) others ∙ of (goes_on run next) apart.0
  where
    of : (t : Bool) → t ≡ false → cond t (both run next ∷ runs) (run ∷ next ∷ runs) ≡ run ∷ next ∷ runs
    of t is = rw is refl
