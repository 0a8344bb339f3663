-- Lines, one after another.
use Rattle.std.proofs.Common.{◌≡◌, ◌+◌, ◌<◌, ◌≤◌, ℕ, List, [], ◌++◌, drop, get_or, length, map, sym, ap, ◌∙◌, arith}
use Rattle.std.proofs.lemmas.Grind.{common_steps}
use Rattle.std.proofs.lemmas.List.{drop_more}
use Rattle.ntfs_runs.specs.declared.run.Run.{Run}
use Rattle.ntfs_runs.proofs.CellsLemmas.{no_run}
use Rattle.ntfs_runs.proofs.ClustersLemmas.{next-run}
use Rattle.ntfs_owners.specs.Held.{held_of}
use Rattle.ntfs_owners.specs.OwnerLines.{held_lines, run_lines, run_numbers}
use Rattle.ntfs_owners.specs.declared.holding.Holding.{Holding}

drop_past : {X : Type 0} (xs : List X) (i : ℕ) → length xs ≤ i → drop i xs ≡ []
drop_past xs i past = grind (arith, common_steps)

pub run_lines-next : (text : List ℕ) (vcn i : ℕ) (runs : List Run) → i < length runs
    → run_lines text vcn (drop i runs) ≡ (text ++ run_numbers vcn (get_or runs i no_run)) ++ run_lines text (vcn + (get_or runs i no_run).length) (drop (i + 1) runs)
unfolding run_lines
run_lines-next text vcn i runs lt = ap (run_lines text vcn) (next-run runs i no_run lt)

pub run_lines-last : (text : List ℕ) (vcn i : ℕ) (runs : List Run) → length runs ≤ i → run_lines text vcn (drop i runs) ≡ []
unfolding run_lines
run_lines-last text vcn i runs past = ap (run_lines text vcn) (drop_past runs i past)

pub held_lines-next : (i : ℕ) (held : List Holding) (x : Holding) → i < length held → x ≡ get_or held i x
    → held_lines (map held_of (drop i held)) ≡ run_lines (held_of x).text (held_of x).lowest (held_of x).runs ++ held_lines (map held_of (drop (i + 1) held))
unfolding held_lines
held_lines-next i held x lt is =
    ap (λ xs. held_lines (map held_of xs)) (drop_more held i x lt)
    ∙ ap (λ (y : Holding). run_lines (held_of y).text (held_of y).lowest (held_of y).runs ++ held_lines (map held_of (drop (i + 1) held))) (sym is)

pub held_lines-last : (i : ℕ) (held : List Holding) → length held ≤ i → held_lines (map held_of (drop i held)) ≡ []
unfolding held_lines
held_lines-last i held past = ap (λ xs. held_lines (map held_of xs)) (drop_past held i past)
