use Rattle.ntfs_clone.proofs.SavingLemmas.{saves-none}
use Rattle.ntfs_clone.proofs.waiting.make_room.Goals as goal

pub returns-then-count-saturating_sub-clause-saved : goal.returns-then-count-saturating_sub-clause-saved
returns-then-count-saturating_sub-clause-saved g c = saves-none _ _ _
