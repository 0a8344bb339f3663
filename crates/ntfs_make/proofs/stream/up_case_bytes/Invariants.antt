use Rattle.std.proofs.Common.{◌≡◌}
use Rattle.ntfs_make.specs.UpCase.{up_case_bytes}
use Rattle.ntfs_make.proofs.stream.up_case_bytes.Given as goal

abbrev pub invariant-units : goal.invariant-units
invariant-units l = l.bytes.items ≡ up_case_bytes l.unit
