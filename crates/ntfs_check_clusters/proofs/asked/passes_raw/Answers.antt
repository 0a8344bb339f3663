use Rattle.std.proofs.Common.{◌∙◌, sym}
use Rattle.ntfs_check_clusters.proofs.AskedLemmas.{passes-idle, passes-mark, passes-names}
use Rattle.ntfs_check_clusters.proofs.asked.passes_raw.Goals as goal

pub returns-then-not-is_in_use : goal.returns-then-not-is_in_use
returns-then-not-is_in_use c = passes-idle c.args.asked.now c.args.number c.args.raw.now (sym c.is_in_use.ensures ∙ c.if-not-is_in_use.true)

pub returns-in-Mark : goal.returns-in-Mark
returns-in-Mark c = passes-mark c.args.asked.now c.in-Mark.bits c.args.number c.args.raw.now c.has_bit.result c.in-Mark.is (sym c.is_in_use.ensures ∙ c.if-not-is_in_use.false) c.has_bit.ensures

pub returns-in-Names : goal.returns-in-Names
returns-in-Names c = passes-names c.args.asked.now c.args.number c.args.raw.now c.passes_names.result c.in-Names.is (sym c.is_in_use.ensures ∙ c.if-not-is_in_use.false) c.passes_names.ensures
