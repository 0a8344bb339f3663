use Rattle.std.proofs.Common.{rules}
use Rattle.ntfs_make.proofs.tests.streams.layout_of.Goals as goal

pub new-requires : goal.new-requires
new-requires g c = rw (c.from.ensures, c.from-2.ensures) (c.is_in_range.ensures.yes (search rules) c.args.seed)
