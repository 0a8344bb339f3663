use Rattle.std.proofs.Common.{refl}
use Rattle.ntfs_make.specs.Rows.{system_rows, kind_rows, file_rows, spare_rows}
use Rattle.ntfs_make.specs.UpCase.{upper}
use Rattle.ntfs_make.specs.RootNames.{root_names}
use Rattle.ntfs_make.proofs.laws.root_names_are_in_order.Goals as goal

pub returns : goal.returns
unfolding system_rows kind_rows file_rows spare_rows upper root_names
returns c = refl
