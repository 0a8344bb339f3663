use Rattle.std.proofs.Common.{sym}
use Rattle.ntfs_check_fixed.proofs.PlaceLemmas.{holes-in-place, no-run-in-place, some-run-in-place}
use Rattle.ntfs_check_fixed.proofs.cells.is_in_place.Goals as goal

pub returns-in-None : goal.returns-in-None
returns-in-None c = rw c.in-None.is (sym (holes-in-place c.args.run.now.length c.args.vcn))

pub returns-then-run-eq0 : goal.returns-then-run-eq0
returns-then-run-eq0 c = no-run-in-place c.args.run.now.length c.args.vcn c.args.run.now.lcn c.if-run-eq0.true

pub returns-else-run-eq0 : goal.returns-else-run-eq0
returns-else-run-eq0 c = rw c.in-Some.is (some-run-in-place c.args.run.now.length c.in-Some.lcn c.args.vcn c.if-run-eq0.false)
