use Rattle.std.proofs.Common.{◌≡◌, replicate}
use Rattle.ntfs_make.proofs.stream.ff_bytes.Given as goal

abbrev pub invariant-bytes : goal.invariant-bytes
invariant-bytes l = l.bytes.items ≡ replicate l.place 0xFF
