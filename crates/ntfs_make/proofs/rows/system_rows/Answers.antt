use Rattle.std.proofs.Common.{refl}
use Rattle.ntfs_make.specs.Rows.{system_rows}
use Rattle.ntfs_make.proofs.rows.system_rows.Goals as goal

pub returns-clause-table : goal.returns-clause-table
unfolding system_rows
returns-clause-table c = refl
