use Rattle.ntfs_check_fixed.proofs.FactLemmas.{dirty-is, dirty-short}
use Rattle.ntfs_check_fixed.proofs.known.is_dirty.Goals as goal

pub returns-then-value-lt11 : goal.returns-then-value-lt11
returns-then-value-lt11 c = dirty-short c.args.value.now c.if-value-lt11.true

pub returns : goal.returns
returns c = dirty-is c.args.value.now
