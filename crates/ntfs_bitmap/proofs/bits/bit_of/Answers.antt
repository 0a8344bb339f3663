use Rattle.std.proofs.Common.{ap, nat_eq}
use Rattle.std.proofs.lemmas.Nat.Bits.{shr_and_one}
use Rattle.ntfs_bitmap.specs.Bits.{bit_of}
use Rattle.ntfs_bitmap.proofs.bits.bit_of.Goals as goal

pub returns : goal.returns
unfolding bit_of
returns c = ap (λ bit. nat_eq bit 1) (shr_and_one _ _)
