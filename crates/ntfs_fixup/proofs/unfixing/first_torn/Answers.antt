use Rattle.std.proofs.Common.{◌≢◌, below_more, arith, sym, ◌∙◌}
use Rattle.ntfs_fixup.specs.Fixups.{last_word, sequence_number}
use Rattle.ntfs_fixup.proofs.FixupLemmas.{agrees-same, agrees-other, first_torn-some, first_torn-none}
use Rattle.ntfs_fixup.proofs.unfixing.first_torn.Goals as goal

pub returns-then-last_word-number : goal.returns-then-last_word-number
returns-then-last_word-number c =
    let other : last_word c.args.block.now c.tested.stride ≢ sequence_number c.args.block.now =
    λ e. c.if-last_word-number.true (c.last_word.ensures ∙ e ∙ sym c.sequence_number-number.ensures) in
    sym (first_torn-some c.args.block.now c.tested.stride (omega arith) c.tested.invariant (agrees-other _ _ other))

pub tested-preserved : goal.tested-preserved
tested-preserved c =
    below_more _ _ c.tested.invariant
    (agrees-same _ _ (sym c.last_word.ensures ∙ c.if-last_word-number.false ∙ c.sequence_number-number.ensures))

pub returns : goal.returns
returns c = sym (first_torn-none c.args.block.now (λ k within. c.tested.invariant k (omega arith)))
