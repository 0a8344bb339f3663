use Rattle.std.proofs.Common.{sym, ap, length, ◌∙◌}
use Rattle.ntfs_show.proofs.RecordInfoLemmas.{count-spelled, spells-right, spells-wrong}
use Rattle.ntfs_show.proofs.record_info.run_count.Goals as goal

pub returns-in-Err-BadPairs : goal.returns-in-Err-BadPairs
returns-in-Err-BadPairs c =
    let wrong = rw c.in-Err-BadPairs.field-0-is at c.in-Err-BadPairs.ensures.exact in
    spells-wrong c.args.clusters c.args.count c.args.pairs.now wrong.0

pub returns-then-not-spell : goal.returns-then-not-spell
returns-then-not-spell c =
    let right = c.in-Ok.ensures.exact in
    spells-right c.args.clusters c.args.count c.args.pairs.now c.in-Ok.list right.0 right.1 ∙ sym c.spell.ensures ∙ c.if-not-spell.true

pub returns-else-not-spell : goal.returns-else-not-spell
returns-else-not-spell c =
    let right = c.in-Ok.ensures.exact in (
      spells-right c.args.clusters c.args.count c.args.pairs.now c.in-Ok.list right.0 right.1 ∙ sym c.spell.ensures ∙ c.if-not-spell.false,
      ap length c.runs.ensures ∙ count-spelled c.args.pairs.now c.in-Ok.list right.0 right.1,
    )
