use Rattle.std.proofs.Common.{refl}
use Rattle.ntfs_make.specs.Rows.{kind_rows}
use Rattle.ntfs_make.proofs.rows.kind_rows.Goals as goal

pub returns-clause-table : goal.returns-clause-table
unfolding kind_rows
returns-clause-table c = refl
