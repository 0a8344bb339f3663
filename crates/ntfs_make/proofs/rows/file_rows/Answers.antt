use Rattle.std.proofs.Common.{refl}
use Rattle.ntfs_make.specs.Rows.{file_rows}
use Rattle.ntfs_make.proofs.rows.file_rows.Goals as goal

pub returns-clause-table : goal.returns-clause-table
unfolding file_rows
returns-clause-table c = refl
