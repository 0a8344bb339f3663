use Rattle.std.proofs.Common.{◌∙◌, arith}
use Rattle.ntfs_words.proofs.NumberLemmas.{no_hyphen}
use Rattle.ntfs_words.proofs.number.range_of.Goals as goal

pub returns-in_err-first : goal.returns-in_err-first
returns-in_err-first c = c.from_residual.ensures ∙ no_hyphen c.args.word.now (c.in_err-first.ensures.byte (omega arith) (λ text found finds. finds))
