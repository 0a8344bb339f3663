use Rattle.std.proofs.Common.{◌≡◌, ◌++◌, replicate}
use Rattle.ntfs_make.proofs.field.put_zeros.Given as goal

abbrev pub invariant-zeros : goal.invariant-zeros
invariant-zeros l = l.out.items ≡ l.fn.out.items ++ replicate l.place 0
