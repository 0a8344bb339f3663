use Rattle.std.proofs.Common.{sym}
use Rattle.ntfs_runs.proofs.CellsLemmas.{are_cells-hole_allowed, are_cells-no_hole, are_cells-some}
use Rattle.ntfs_runs.proofs.cells.is_below.Goals as goal

pub returns-then-holes : goal.returns-then-holes
returns-then-holes c = rw c.in-None.is (sym (are_cells-hole_allowed c.args.holes c.args.clusters c.args.run.now.length c.if-holes.true))

pub returns-else-holes : goal.returns-else-holes
returns-else-holes c = rw c.in-None.is (sym (are_cells-no_hole c.args.holes c.args.clusters c.args.run.now.length c.if-holes.false))

pub returns-in-Some : goal.returns-in-Some
returns-in-Some c = rw (c.in-Some.is, c.saturating_sub.ensures) (sym (are_cells-some c.args.holes c.args.clusters c.in-Some.lcn c.args.run.now.length))
