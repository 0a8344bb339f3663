use Rattle.std.proofs.Common.{false, codes, ◌∙◌}
use Rattle.std.proofs.lemmas.Str.Pattern.{ends_text}
use Rattle.ntfs_words.proofs.NumberLemmas.{no_unit}
use Rattle.ntfs_words.proofs.number.size_of.Goals as goal

pub returns : goal.returns
returns c = c.scaled-2.ensures ∙ no_unit c.args.word.now
    (ends_text false (codes "k") c.args.word.now c.in_default.ensures.cases)
    (ends_text false (codes "M") c.args.word.now c.in_default-strip_suffix.ensures.cases)
    (ends_text false (codes "G") c.args.word.now c.in_default-strip_suffix-2.ensures.cases)
