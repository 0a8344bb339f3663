use Rattle.std.proofs.Common.{None, refl}
use Rattle.ntfs_check_fixed.proofs.PlaceLemmas.{empty-front}
use Rattle.ntfs_check_fixed.proofs.cells.Cells.new.Goals as goal

pub returns : goal.returns
returns c = empty-front (record { length = 0; lcn = None }) c.args.runs.now refl
