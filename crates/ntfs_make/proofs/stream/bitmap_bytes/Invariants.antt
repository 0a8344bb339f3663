use Rattle.std.proofs.Common.{◌≡◌}
use Rattle.ntfs_make.specs.Streams.{bitmap_bytes}
use Rattle.ntfs_make.proofs.stream.bitmap_bytes.Given as goal

abbrev pub invariant-bytes : goal.invariant-bytes
invariant-bytes l = l.bytes.items ≡ bitmap_bytes l.layout l.place
