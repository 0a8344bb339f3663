use Rattle.std.proofs.Common.{sym, ◌∙◌, ◌^◌}
use Rattle.ntfs_runs.proofs.CellsLemmas.{length-vcns}
use Rattle.ntfs_survey.proofs.FoundLemmas.{runs-right, spell-right, spell-wrong}
use Rattle.ntfs_survey.proofs.findings.read_runs.Goals as goal

pub returns-in-Err-BadPairs : goal.returns-in-Err-BadPairs
returns-in-Err-BadPairs c =
    let wrong = rw c.in-Err-BadPairs.field-0-is at c.in-Err-BadPairs.ensures.exact in
    spell-wrong c.args.clusters c.args.count c.args.pairs.now wrong.0

pub returns-then-not-spell : goal.returns-then-not-spell
returns-then-not-spell c =
    let right = c.in-Ok.ensures.exact in
    spell-right c.args.clusters c.args.count c.args.pairs.now c.in-Ok.list right.0 right.1 ∙ sym c.spell.ensures ∙ c.if-not-spell.true

pub returns-else-not-spell : goal.returns-else-not-spell
returns-else-not-spell c =
    let right = c.in-Ok.ensures.exact in (
      spell-right c.args.clusters c.args.count c.args.pairs.now c.in-Ok.list right.0 right.1 ∙ sym c.spell.ensures ∙ c.if-not-spell.false,
      runs-right c.args.pairs.now c.in-Ok.list right.0 right.1,
      length-vcns (2 ^ 48) c.in-Ok.list c.in-Ok.ensures.spellable,
    )
