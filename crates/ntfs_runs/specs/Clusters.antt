-- What a run list means: one cell for each virtual cluster number (VCN). Where no source is named, the word is ours.
use Rattle.std.specs.Prelude.{◌≤◌, ◌+◌, ◌-◌, ◌^◌, ℕ, zero, suc, List, [], ◌∷◌, ◌++◌, Option, Some, None, IfSome}
use Rattle.ntfs_runs.specs.declared.run.Run.{Run}

-- the cell so many VCNs behind one of the same run: cluster l + k behind cluster l, a hole behind a hole
abbrev pub behind : Option ℕ → ℕ → Option ℕ
behind None k = None
behind (Some l) k = Some (l + k)

-- n cells in a row that begin with this one: a run of clusters counts up from its LCN, a hole stays one
-- (the Linux-NTFS documentation, "Data Runs")
unfoldable pub row : ℕ → Option ℕ → List (Option ℕ)
row zero cell = []
row (suc n) cell = cell ∷ row n (behind cell 1)

-- one cell for each VCN of the runs, in order: a cluster number, or None for a hole (the Linux-NTFS documentation,
-- "Data Runs")
unfoldable pub vcns : List Run → List (Option ℕ)
vcns [] = []
vcns (run ∷ runs) = row run.length run.lcn ++ vcns runs

-- each run's clusters are numbers below 2 ^ 64
abbrev pub AreWithin : List Run → Type 0
AreWithin [] = Unit {0}
AreWithin (run ∷ runs) = IfSome run.lcn (λ lcn. lcn + run.length ≤ 2 ^ 64) × AreWithin runs

-- runs that mapping pairs can spell within a budget of clusters: each has at least one cluster, an LCN is at most
-- 2 ^ 48, and the lengths together are at most the budget; the budget of a whole list is 2 ^ 48
abbrev pub FitFrom : ℕ → List Run → Type 0
FitFrom room [] = Unit {0}
FitFrom room (run ∷ runs) =
    (1 ≤ run.length) × (run.length ≤ room) × IfSome run.lcn (λ lcn. lcn ≤ 2 ^ 48) × FitFrom (room - run.length) runs

-- runs that mapping pairs can spell
abbrev pub AreSpellable : List Run → Type 0
AreSpellable runs = FitFrom (2 ^ 48) runs
