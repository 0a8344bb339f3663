-- Cells below the number of clusters, counted.
use Rattle.std.proofs.Common.{◌≡◌, ◌&&◌, ◌==◌, ℕ, List, length, refl, ap, ◌∙◌, arith, Bool, true, false}
use Rattle.std.proofs.lemmas.Bool.{and_from}
use Rattle.std.proofs.lemmas.Bool.Decides.{nat_tests}
use Rattle.ntfs_runs.specs.declared.run.Run.{Run}
use Rattle.ntfs_runs.specs.Clusters.{vcns}
use Rattle.ntfs_runs.specs.Reading.{reading}
use Rattle.ntfs_runs.specs.Cells.{are_cells, cells_below, cells_of}
use Rattle.ntfs_runs.proofs.CellsLemmas.{cells_of-right, cells_of-wrong}

and-first : (a b : Bool) → a ≡ false → (a && b) ≡ false
and-first a b first = rw first refl

and-second : (a b : Bool) → b ≡ false → (a && b) ≡ false
and-second true b second = second
and-second false b second = refl

pub below-right : (n : ℕ) (pairs : List ℕ) (runs : List Run) → (reading pairs).is_right ≡ true → runs ≡ (reading pairs).runs → are_cells true n (vcns runs) ≡ true
    → ((cells_below n pairs).is_right ≡ true) × ((cells_below n pairs).cells ≡ vcns runs)
unfolding cells_below
below-right n pairs runs right are below =
    let cells = cells_of-right pairs runs right are in
    (and_from (cells_of pairs).is_right (are_cells true n (cells_of pairs).cells) cells.0 (ap (are_cells true n) cells.1 ∙ below), cells.1)

pub below-wrong : (n count : ℕ) (pairs : List ℕ) → (reading pairs).is_right ≡ false → ((cells_below n pairs).is_right && (length (cells_below n pairs).cells == count)) ≡ false
unfolding cells_below
below-wrong n count pairs wrong = rw (cells_of-wrong pairs wrong) refl

pub below-past : (n count : ℕ) (pairs : List ℕ) (runs : List Run) → (reading pairs).is_right ≡ true → runs ≡ (reading pairs).runs → are_cells true n (vcns runs) ≡ false
    → ((cells_below n pairs).is_right && (length (cells_below n pairs).cells == count)) ≡ false
unfolding cells_below
below-past n count pairs runs right are past =
    let cells = cells_of-right pairs runs right are in
    and-first ((cells_of pairs).is_right && are_cells true n (cells_of pairs).cells) (length (cells_of pairs).cells == count)
    (and-second (cells_of pairs).is_right (are_cells true n (cells_of pairs).cells) (ap (are_cells true n) cells.1 ∙ past))

pub below-count : (n count : ℕ) (pairs : List ℕ) (runs : List Run) → (reading pairs).is_right ≡ true → runs ≡ (reading pairs).runs → (length (vcns runs) == count) ≡ false
    → ((cells_below n pairs).is_right && (length (cells_below n pairs).cells == count)) ≡ false
unfolding cells_below
below-count n count pairs runs right are other =
    let cells = cells_of-right pairs runs right are in
    and-second ((cells_of pairs).is_right && are_cells true n (cells_of pairs).cells) (length (cells_of pairs).cells == count)
    (ap (λ xs. length xs == count) cells.1 ∙ other)

differ : (a b : ℕ) → (a ≡ b → ⊥) → (a == b) ≡ false
differ a b ne = grind (arith, nat_tests)

pub below-other : (n count k : ℕ) (pairs : List ℕ) (runs : List Run) → (reading pairs).is_right ≡ true → runs ≡ (reading pairs).runs → k ≡ length (vcns runs) → (k ≡ count → ⊥)
    → ((cells_below n pairs).is_right && (length (cells_below n pairs).cells == count)) ≡ false
below-other n count k pairs runs right are is other = below-count n count pairs runs right are (differ (length (vcns runs)) count (λ e. other (is ∙ e)))
