use Rattle.std.proofs.Common.{◌≡◌, ◌*◌, vec_len}
use Rattle.ntfs_upcase.proofs.tests.table_bytes.Given as goal

abbrev pub invariant-units : goal.invariant-units
invariant-units l = vec_len l.table ≡ 2 * l.unit
