use Rattle.std.proofs.Common.{◌+◌, sym, ap, ◌∙◌, drop}
use Rattle.std.specs.Prelude.{◌&&◌}
use Rattle.ntfs_runs.specs.Clusters.{vcns}
use Rattle.ntfs_runs.specs.Cells.{are_cells}
use Rattle.ntfs_runs.proofs.CellsLemmas.{vcns-all}
use Rattle.ntfs_runs.proofs.CellsLemmas.{are_cells-next}
use Rattle.ntfs_runs.proofs.cells.are_below.Goals as goal

pub returns-then-not-is_below : goal.returns-then-not-is_below
returns-then-not-is_below c =
    let test = sym c.is_below.ensures ∙ c.if-not-is_below.true in
    let next = are_cells-next c.args.holes c.args.clusters c.args.runs.now c.runs.run-index c.runs-test.true in
    sym (sym c.runs.invariant ∙ next ∙ ap (λ b. b && are_cells c.args.holes c.args.clusters (vcns (drop (c.runs.run-index + 1) c.args.runs.now))) test)

pub runs-preserved : goal.runs-preserved
runs-preserved c =
    let test = sym c.is_below.ensures ∙ c.if-not-is_below.false in
    let next = are_cells-next c.args.holes c.args.clusters c.args.runs.now c.runs.run-index c.runs-test.true in
    sym (sym c.runs.invariant ∙ next ∙ ap (λ b. b && are_cells c.args.holes c.args.clusters (vcns (drop (c.runs.run-index + 1) c.args.runs.now))) test)

pub returns : goal.returns
unfolding are_cells
returns c = sym (ap (are_cells c.args.holes c.args.clusters) (vcns-all c.args.runs.now c.runs.run-index c.runs-test.false)) ∙ c.runs.invariant
