use Rattle.ntfs_bitmap.proofs.LawLemmas.{claimed-swap}
use Rattle.ntfs_bitmap.proofs.laws.claims_come_in_any_order.Goals as goal

pub returns : goal.returns
returns c = claimed-swap
