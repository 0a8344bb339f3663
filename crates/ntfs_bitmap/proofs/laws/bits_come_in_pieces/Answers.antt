use Rattle.ntfs_bitmap.proofs.LawLemmas.{bit-first, bit-second}
use Rattle.ntfs_bitmap.proofs.laws.bits_come_in_pieces.Goals as goal

pub returns-clause-first : goal.returns-clause-first
returns-clause-first c = bit-first

pub returns-clause-second : goal.returns-clause-second
returns-clause-second c = bit-second
