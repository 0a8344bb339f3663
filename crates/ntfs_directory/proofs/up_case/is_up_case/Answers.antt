use Rattle.ntfs_runs.specs.Clusters.{vcns}
use Rattle.ntfs_directory.proofs.UpCaseLemmas.{not-table, other-sizes, table-cells}
use Rattle.ntfs_directory.proofs.up_case.is_up_case.Goals as goal

pub returns-in-None : goal.returns-in-None
returns-in-None c = not-table c.args.clusters c.args.stream.now.stream (rw c.in-None.is at c.runs.ensures.cells)

pub returns-then-has_table_sizes : goal.returns-then-has_table_sizes
returns-then-has_table_sizes c =
    table-cells c.args.clusters c.args.stream.now.stream c.has_table_sizes.result c.lies_below.result (vcns c.in-Some.runs.now) (rw c.in-Some.is at c.runs.ensures.cells)
    c.has_table_sizes.ensures c.if-has_table_sizes.true c.lies_below.ensures

pub returns-else-has_table_sizes : goal.returns-else-has_table_sizes
returns-else-has_table_sizes c =
    other-sizes c.args.clusters c.args.stream.now.stream c.has_table_sizes.result c.has_table_sizes.ensures c.if-has_table_sizes.false
