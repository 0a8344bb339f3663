use Rattle.ntfs_check_fixed.proofs.FactLemmas.{other-end, own-end}
use Rattle.ntfs_check_fixed.proofs.known.end_in.Goals as goal

pub returns-then-owner-number : goal.returns-then-owner-number
returns-then-owner-number c = λ n few lies. other-end c.args.number c.args.owner.now c.if-owner-number.true

pub returns : goal.returns
returns c = λ n few lies. own-end c.args.number c.saturating_add.result n c.args.owner.now few lies c.if-owner-number.false c.saturating_add.ensures
