use Rattle.std.proofs.Common.{refl}
use Rattle.ntfs_make.specs.Rows.{spare_rows}
use Rattle.ntfs_make.proofs.rows.spare_rows.Goals as goal

pub returns-clause-table : goal.returns-clause-table
unfolding spare_rows
returns-clause-table c = refl
