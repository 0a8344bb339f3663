use Rattle.std.proofs.Common.{◌≡◌}
use Rattle.ntfs_make.specs.Streams.{counting_bytes}
use Rattle.ntfs_make.proofs.stream.counting_bytes.Given as goal

abbrev pub invariant-counts : goal.invariant-counts
invariant-counts l = l.bytes.items ≡ counting_bytes l.first l.place
