use Rattle.std.proofs.Common.{rules}
use Rattle.ntfs_clone.proofs.law_tests.volume.Goals as goal

pub make-requires-clause-range : goal.make-requires-clause-range
make-requires-clause-range g c = c.is_in_range.ensures.yes (search rules) c.args.seed
