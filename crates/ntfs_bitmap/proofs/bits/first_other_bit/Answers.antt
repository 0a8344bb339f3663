use Rattle.std.proofs.Common.{inl, inr, arith}
use Rattle.std.proofs.lemmas.Bool.{cases_lt}
use Rattle.ntfs_bitmap.proofs.BitLemmas.{whole-byte}
use Rattle.ntfs_bitmap.proofs.bits.first_other_bit.Goals as goal

pub bits-preserved-then-bits-at : goal.bits-preserved-then-bits-at
bits-preserved-then-bits-at c = (
  omega (arith, c.bits.invariant.0),
  omega (arith, c.if-to-at-ge8.true, c.bits.invariant.1),
  λ place from below.
      elim (cases_lt place c.bits.at) [
        | inl before ↦ c.bits.invariant.2 place from before
        | inr up ↦ whole-byte c.args.bits.now c.bits.at c.byte_of-whole.result c.args.expected c.if-at-eq0.true
            c.if-bits-at.true
            c.byte_of-whole.ensures place up below
      ],
)
