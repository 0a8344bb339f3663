use Rattle.std.proofs.Common.{nat_eq, sym, ap, ◌∙◌}
use Rattle.std.proofs.lemmas.Nat.Bits.{bit_at_ones}
use Rattle.ntfs_bitmap.proofs.bits.byte_of.Goals as goal

pub returns-then-bit : goal.returns-then-bit
returns-then-bit c = λ place below. ap (λ bit. nat_eq bit 1) (bit_at_ones 8 place below) ∙ sym c.if-bit.true
