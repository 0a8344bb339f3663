-- Looking up the cell of a VCN.
use Rattle.std.proofs.Common.{◌≡◌, ◌≤◌, ◌<◌, ◌+◌, ◌-◌, ◌^◌, ℕ, zero, suc, List, [], ◌∷◌, ◌++◌, length, drop, get_or, refl, sym, ap, ◌∙◌, add-one, arith, drop-cons}
use Rattle.std.specs.Prelude.{Option, Some, None, slice_get, IfSome}
use Rattle.std.proofs.lemmas.List.{drop_all}
use Rattle.ntfs_runs.specs.declared.run.Run.{Run}
use Rattle.ntfs_runs.specs.Clusters.{behind, row, vcns, AreWithin}

pub behind-zero : (cell : Option ℕ) → behind cell 0 ≡ cell
behind-zero None = refl
behind-zero (Some l) = ap Some (omega arith)

pub behind-behind : (cell : Option ℕ) (j k : ℕ) → behind (behind cell j) k ≡ behind cell (j + k)
behind-behind None j k = refl
behind-behind (Some l) j k = ap Some (omega arith)

behind-next : (cell : Option ℕ) (k : ℕ) → behind (behind cell 1) k ≡ behind cell (suc k)
behind-next cell k = behind-behind cell 1 k ∙ ap (behind cell) (omega arith)

row-get : (n : ℕ) (cell : Option ℕ) (rest : List (Option ℕ)) (k : ℕ) → k < n → slice_get (row n cell ++ rest) k ≡ Some (behind cell k)
unfolding row
row-get zero cell rest k lt = absurd (omega arith)
row-get (suc n) cell rest zero lt = ap Some (sym (behind-zero cell))
row-get (suc n) cell rest (suc k) lt = row-get n (behind cell 1) rest k (omega arith) ∙ ap Some (behind-next cell k)

row-past : (n : ℕ) (cell : Option ℕ) (rest : List (Option ℕ)) (k : ℕ) → n ≤ k → slice_get (row n cell ++ rest) k ≡ slice_get rest (k - n)
unfolding row
row-past zero cell rest k le = let same : k - 0 ≡ k = omega arith in rw same refl
row-past (suc n) cell rest zero le = absurd (omega arith)
row-past (suc n) cell rest (suc k) le = let same : suc k - suc n ≡ k - n = omega arith in rw same (row-past n (behind cell 1) rest k (omega arith))

-- a VCN within the first run, or behind it
pub vcns-within : (run : Run) (runs : List Run) (k : ℕ) → k < run.length → slice_get (vcns (run ∷ runs)) k ≡ Some (behind run.lcn k)
unfolding vcns
vcns-within run runs k lt = row-get run.length run.lcn (vcns runs) k lt

pub vcns-past : (run : Run) (runs : List Run) (k : ℕ) → run.length ≤ k → slice_get (vcns (run ∷ runs)) k ≡ slice_get (vcns runs) (k - run.length)
unfolding vcns
vcns-past run runs k le = row-past run.length run.lcn (vcns runs) k le

pub vcns-none : (k : ℕ) → slice_get (vcns []) k ≡ None
unfolding vcns
vcns-none k = refl

-- the runs from the next one on
pub next-run : (runs : List Run) (i : ℕ) (none : Run) → i < length runs → drop i runs ≡ get_or runs i none ∷ drop (i + 1) runs
next-run runs i none lt = rw add-one (drop-cons runs i none lt)

-- one turn of a look-up: the VCN is in the next run, or counted on from its end
pub looked-up : (runs : List Run) (i left : ℕ) (none : Run) (found : Option (Option ℕ)) → i < length runs → left < (get_or runs i none).length → slice_get (vcns (drop i runs)) left ≡ found
    → Some (behind (get_or runs i none).lcn left) ≡ found
looked-up runs i left none found lt within is =
    sym (rw (next-run runs i none lt) (vcns-within (get_or runs i none) (drop (i + 1) runs) left within)) ∙ is

pub looked-past : (runs : List Run) (i left : ℕ) (none : Run) (found : Option (Option ℕ)) → i < length runs → (get_or runs i none).length ≤ left → slice_get (vcns (drop i runs)) left ≡ found
    → slice_get (vcns (drop (i + 1) runs)) (left - (get_or runs i none).length) ≡ found
looked-past runs i left none found lt past is =
    sym (rw (next-run runs i none lt) (vcns-past (get_or runs i none) (drop (i + 1) runs) left past)) ∙ is

pub looked-all : (runs : List Run) (i left : ℕ) (found : Option (Option ℕ)) → length runs ≤ i → slice_get (vcns (drop i runs)) left ≡ found → None ≡ found
looked-all runs i left found le is = sym (rw (drop_all i runs le) (vcns-none left)) ∙ is

-- a run that is within 2 ^ 64
pub within-at : (runs : List Run) (i : ℕ) (none : Run) → i < length runs → AreWithin runs → IfSome (get_or runs i none).lcn (λ lcn. lcn + (get_or runs i none).length ≤ 2 ^ 64)
within-at [] i none lt are = absurd (omega arith)
within-at (run ∷ runs) zero none lt are = are.0
within-at (run ∷ runs) (suc i) none lt are = within-at runs i none (omega arith) are.1
