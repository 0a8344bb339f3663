use Rattle.std.proofs.Common.{arith, ap, length}
use Rattle.ntfs_upcase.proofs.NamesLemmas.{length-units}
use Rattle.ntfs_upcase.proofs.up_case.UpCase.from_bytes.Goals as goal

pub invariant_of-result : goal.invariant_of-result
invariant_of-result c = omega (arith, length-units c.args.table.now, ap length c.in_ok-upper.ensures)
