use Rattle.ntfs_bitmap.proofs.LawLemmas.{claimed-row}
use Rattle.ntfs_bitmap.proofs.laws.claims_in_a_row_are_one.Goals as goal

pub returns : goal.returns
returns c = claimed-row
