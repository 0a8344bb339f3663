use Rattle.std.proofs.Common.{rules, ◌∙◌, refl}
use Rattle.ntfs_run.proofs.MessageLemmas.{without_zeros-zero, without_zeros-last, without_zeros-other}
use Rattle.ntfs_run.proofs.message.without_zeros.Goals as goal

pub zeros-preserved : goal.zeros-preserved
zeros-preserved c = (without_zeros-zero c.zeros.left.now _ c.zeros-test.true c.if-left-eq48.true refl ∙ c.zeros.invariant.0, search rules)

pub returns-else-left-eq48-clause-value : goal.returns-else-left-eq48-clause-value
returns-else-left-eq48-clause-value c = without_zeros-other c.zeros.left.now c.if-left-eq48.false ∙ c.zeros.invariant.0

pub returns-after-zeros-clause-value : goal.returns-after-zeros-clause-value
returns-after-zeros-clause-value c = without_zeros-last c.zeros.left.now c.zeros-test.false ∙ c.zeros.invariant.0
