use Rattle.ntfs_check_fixed.proofs.PlaceLemmas.{row-after, row-behind}
use Rattle.ntfs_check_fixed.proofs.cells.shortened.Goals as goal

pub returns-in-None-clause-cells : goal.returns-in-None-clause-cells
returns-in-None-clause-cells c = rw c.in-None.is (row-behind c.args.run.length c.requires.some)

pub returns-in-Some-clause-cells : goal.returns-in-Some-clause-cells
returns-in-Some-clause-cells c = rw c.in-Some.is (row-after c.args.run.length c.in-Some.lcn c.saturating_add.result c.requires.some (rw c.in-Some.is at c.requires.within).0 c.saturating_add.ensures)
