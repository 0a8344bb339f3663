-- The one shortest spelling of a list of cells. Where no source is named, the word is ours.
use Rattle.std.specs.List.{AllByRecursion}
use Rattle.std.specs.Prelude.{◌≡◌, ◌≤◌, ◌^◌, length, IfSome, ◌+◌, ◌-ℤ◌, ◌==◌, ℕ, pos, List, [], ◌∷◌, ◌++◌, Option, Some, None, Bool, true, false, if◌then◌else◌}
use Rattle.ntfs_runs.specs.declared.run.Run.{Run}
use Rattle.ntfs_runs.specs.Number.{shortest}
use Rattle.ntfs_runs.specs.Clusters.{behind}
use Rattle.ntfs_runs.specs.Spelling.{pair, last_after}

-- whether two cells are the same: two holes, or one cluster
abbrev pub same_cell : Option ℕ → Option ℕ → Bool
same_cell None None = true
same_cell (Some k) (Some l) = k == l
same_cell None (Some l) = false
same_cell (Some k) None = false

-- whether a run goes on from the one before: they are adjacent clusters, or two holes
abbrev pub goes_on : Run → Run → Bool
goes_on before run = same_cell (behind before.lcn before.length) run.lcn

-- two runs of which the second goes on from the first, as one
abbrev pub both : Run → Run → Run
both before run = record { length = before.length + run.length; lcn = before.lcn }

-- a run in front of others, joined with the first of them where that goes on from it
abbrev pub in_front : Run → List Run → List Run
in_front run [] = run ∷ []
in_front run (next ∷ runs) = if goes_on run next then both run next ∷ runs else run ∷ next ∷ runs

-- the longest runs of the cells, of which no two neighbours can be joined: each cell is a run of one in front of the
-- others
unfoldable pub runs_of : List (Option ℕ) → List Run
runs_of [] = []
runs_of (cell ∷ cells) = in_front (record { length = 1; lcn = cell }) (runs_of cells)

-- no two neighbours can be joined
abbrev pub AreMaximal : List Run → Type 0
AreMaximal [] = Unit {0}
AreMaximal (run ∷ []) = Unit {0}
AreMaximal (run ∷ next ∷ runs) = (goes_on run next ≡ false) × AreMaximal (next ∷ runs)

-- the shortest delta of an LCN behind the last one; a hole has none
abbrev pub delta_text : ℕ → Option ℕ → List ℕ
delta_text last None = []
delta_text last (Some lcn) = shortest (pos lcn -ℤ pos last)

-- the shortest pair of a run behind the last LCN
unfoldable pub run_text : ℕ → Run → List ℕ
run_text last run = pair (shortest (pos run.length)) (delta_text last run.lcn)

-- the shortest pairs of runs behind the last LCN, and the closing 0
unfoldable pub text_from : ℕ → List Run → List ℕ
text_from last [] = 0 ∷ []
text_from last (run ∷ runs) = run_text last run ++ text_from (last_after last run.lcn) runs

-- the shortest spelling of cells whose runs can't be joined: each of the longest runs in the fewest bytes of signed
-- form (the Linux-NTFS documentation, "Data Runs")
unfoldable pub canon : List (Option ℕ) → List ℕ
canon cells = text_from 0 (runs_of cells)

-- cells that can be spelled: at most 2 ^ 48, and no cluster above 2 ^ 48
abbrev pub AreCells : List (Option ℕ) → Type 0
AreCells cells = (length cells ≤ 2 ^ 48) × AllByRecursion (λ cell. IfSome cell (λ k. k ≤ 2 ^ 48)) cells
