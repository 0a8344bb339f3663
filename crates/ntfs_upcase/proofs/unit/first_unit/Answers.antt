use Rattle.std.proofs.Common.{arith}
use Rattle.ntfs_upcase.proofs.NamesLemmas.{units-short, units-first}
use Rattle.ntfs_upcase.proofs.unit.first_unit.Goals as goal

pub returns-then-bytes-lt2-clause-none : goal.returns-then-bytes-lt2-clause-none
returns-then-bytes-lt2-clause-none c = units-short _ (omega arith)

pub returns-clause-unit : goal.returns-clause-unit
returns-clause-unit c =
    rw (c.read_u16.ensures, c.split_at.ensures.front, c.split_at.ensures.back) (units-first c.args.bytes.now (omega arith))
