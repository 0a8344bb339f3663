use Rattle.std.proofs.Common.{◌≡◌}
use Rattle.ntfs_index.proofs.tests.build.told.Given as goal

abbrev pub invariant-calls : goal.invariant-calls
invariant-calls l = l.blocks.size ≡ l.walk.size
