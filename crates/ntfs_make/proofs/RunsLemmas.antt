-- Runs that can be spelled, and how long their spelling is.
use Rattle.std.proofs.Common.{◌≡◌, ◌≤◌, ◌<◌, ◌+◌, ◌-◌, ◌*◌, ◌^◌, ◌==◌, ℕ, ℤ, zero, suc, List, [], ◌∷◌, ◌++◌, length, Bool, true, false, cond, refl, arith, length-append, nat_lt}
use Rattle.std.specs.Prelude.{Option, Some, None, IfSome, pos, ◌-ℤ◌}
use Rattle.ntfs_runs.specs.declared.run.Run.{Run}
use Rattle.ntfs_runs.specs.Clusters.{vcns, FitFrom, AreSpellable}
use Rattle.ntfs_runs.specs.Number.{shortest, reach, size_for}
use Rattle.ntfs_runs.specs.Spelling.{last_after}
use Rattle.ntfs_runs.specs.Canon.{canon, runs_of, in_front, both, goes_on, text_from, run_text, delta_text}
use Rattle.ntfs_runs.proofs.JoinLemmas.{runs_of-vcns}
use Rattle.ntfs_runs.proofs.SizeLemmas.{length-shortest}
use Rattle.ntfs_make.specs.Extents.{unless_empty}

pub record IsShort (run : Run) : Type 0 where
  pub length : run.length < 2 ^ 33
  pub lcn : IfSome run.lcn (λ lcn. lcn ≤ 2 ^ 48)

some-of : (m : ℕ) → m == 0 ≡ false → 1 ≤ m
some-of zero is = absurd cc
some-of (suc m) is = omega arith

-- a run, where it has a cluster, in front of runs that fit
fit-front : (n : ℕ) (run : Run) (rest : List Run) → IsShort run → ((room : ℕ) → n ≤ room → FitFrom room rest) → (room : ℕ) → n + 2 ^ 33 ≤ room → FitFrom room (unless_empty run ++ rest)
fit-front n run rest short fits room within = of (run.length == 0) refl
  where
    of : (t : Bool) → run.length == 0 ≡ t → FitFrom room (cond t [] (run ∷ []) ++ rest)
    of true is = fits room (omega arith)
    of false is =
        let some : 1 ≤ run.length = some-of run.length is in
        let small = short.length in
        (some, omega arith, short.lcn, fits (room - run.length) (omega arith))

pub spellable : (a b c : Run) → IsShort a → IsShort b → IsShort c → AreSpellable (unless_empty a ++ (unless_empty b ++ (unless_empty c ++ [])))
spellable a b c short_a short_b short_c =
    let third = fit-front 0 c [] short_c (λ (room : ℕ) (h : 0 ≤ room). tt) in
    let second = fit-front (0 + 2 ^ 33) b (unless_empty c ++ []) short_b third in
    fit-front (0 + 2 ^ 33 + 2 ^ 33) a (unless_empty b ++ (unless_empty c ++ [])) short_a second (2 ^ 48) (omega arith)

length-unless_empty : (run : Run) → length (unless_empty run) ≤ 1
length-unless_empty run = of (run.length == 0)
  where
    of : (t : Bool) → length (cond t [] (run ∷ [])) ≤ 1
    of true = omega arith
    of false = omega arith

pub few : (a b c : Run) → length (unless_empty a ++ (unless_empty b ++ (unless_empty c ++ []))) ≤ 3
few a b c =
    let first = length-unless_empty a in
    let second = length-unless_empty b in
    let third = length-unless_empty c in
    simp length-append (omega arith)

at_most : (t : Bool) (a b : ℕ) → a ≤ 8 → b ≤ 8 → cond t a b ≤ 8
at_most true a b first second = first
at_most false a b first second = second

size_for-le : (m : ℕ) → size_for m ≤ 8
unfolding size_for
size_for-le m =
    at_most (nat_lt m (2 ^ 7)) _ _ (omega arith) (at_most (nat_lt m (2 ^ 15)) _ _ (omega arith) (at_most (nat_lt m (2 ^ 23)) _ _ (omega arith) (at_most (nat_lt m (2 ^ 31)) _ _ (omega arith)
    (at_most (nat_lt m (2 ^ 39)) _ _ (omega arith) (at_most (nat_lt m (2 ^ 47)) _ _ (omega arith) (at_most (nat_lt m (2 ^ 55)) _ _ (omega arith) (omega arith)))))))

shortest-le : (z : ℤ) → length (shortest z) ≤ 8
shortest-le z = rw (length-shortest z) (size_for-le (reach z))

delta-le : (last : ℕ) (lcn : Option ℕ) → length (delta_text last lcn) ≤ 8
delta-le last None = omega arith
delta-le last (Some lcn) = shortest-le (pos lcn -ℤ pos last)

run_text-le : (last : ℕ) (run : Run) → length (run_text last run) ≤ 17
unfolding run_text
run_text-le last run =
    let count = shortest-le (pos run.length) in
    let delta = delta-le last run.lcn in
    simp length-append (omega arith)

text_from-le : (last : ℕ) (runs : List Run) → length (text_from last runs) ≤ 17 * length runs + 1
unfolding text_from
text_from-le last [] = omega arith
text_from-le last (run ∷ runs) =
    let first = run_text-le last run in
    let rest = text_from-le (last_after last run.lcn) runs in
    simp length-append (omega arith)

in_front-le : (run : Run) (runs : List Run) → length (in_front run runs) ≤ length runs + 1
in_front-le run [] = omega arith
in_front-le run (next ∷ runs) = of (goes_on run next)
  where
    of : (t : Bool) → length (cond t (both run next ∷ runs) (run ∷ next ∷ runs)) ≤ length (next ∷ runs) + 1
    of true = omega arith
    of false = omega arith

runs_of-le : (room : ℕ) (runs : List Run) → FitFrom room runs → length (runs_of (vcns runs)) ≤ length runs
unfolding runs_of vcns
runs_of-le room [] fits = omega arith
runs_of-le room (run ∷ runs) fits =
    let rest = runs_of-le (room - run.length) runs fits.3 in
    let same = runs_of-vcns run runs fits.0 in
    let front = in_front-le run (runs_of (vcns runs)) in
    rw same (omega arith)

pub canon-short : (runs : List Run) → AreSpellable runs → length runs ≤ 3 → length (canon (vcns runs)) ≤ 64
unfolding canon
canon-short runs fits few =
    let text = text_from-le 0 (runs_of (vcns runs)) in
    let count = runs_of-le (2 ^ 48) runs fits in
    omega arith
