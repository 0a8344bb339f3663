use Rattle.ntfs_check_fixed.proofs.MirrorLemmas.{copy-all, copy-fails}
use Rattle.ntfs_check_fixed.proofs.mirror.is_copy.Goals as goal
use Rattle.std.proofs.Common.{sym, ◌∙◌}

pub returns-then-not-is_same_at : goal.returns-then-not-is_same_at
returns-then-not-is_same_at c = copy-fails c.args.block.now c.args.copy.now c.in_use_of.result c.min-end.result c.bytes.place c.in_use_of.ensures c.min-end.ensures c.bytes-test.true (sym c.is_same_at.ensures ∙ c.if-not-is_same_at.true)

pub returns : goal.returns
returns c = copy-all c.args.block.now c.args.copy.now c.in_use_of.result c.min-end.result c.bytes.place c.in_use_of.ensures c.requires.long c.min-end.ensures c.bytes-test.false c.bytes.invariant
