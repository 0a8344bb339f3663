use Rattle.std.proofs.Common.{◌≡◌, List, subst, sym, true}
use Rattle.ntfs_check_fixed.proofs.RowLemmas.{cells-none, no-runs-below, some-below}
use Rattle.ntfs_check_fixed.proofs.rows.runs_of.Goals as goal
use Rattle.ntfs_runs.specs.Cells.{are_cells}
use Rattle.ntfs_runs.specs.Clusters.{vcns}
use Rattle.ntfs_runs.specs.declared.run.Run.{Run}

pub returns-in-None-clause-cells : goal.returns-in-None-clause-cells
returns-in-None-clause-cells c = λ none. cells-none c.args.stream.now.stream none c.in-None.ensures.cells

pub returns-in-None-clause-below : goal.returns-in-None-clause-below
returns-in-None-clause-below c = λ n are. no-runs-below n

pub returns-in-Some-clause-below : goal.returns-in-Some-clause-below
returns-in-Some-clause-below c = λ n are.
    subst (λ (runs : List Run). are_cells true n (vcns runs) ≡ true) (sym c.runs-in-Some.ensures)
    (some-below c.args.stream.now.stream (vcns c.in-Some.runs.now) n c.in-Some.ensures.cells are)
