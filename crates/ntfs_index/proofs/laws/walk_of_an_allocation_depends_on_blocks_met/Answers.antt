use Rattle.ntfs_index.proofs.LawLemmas.{walk_allocation-agrees}
use Rattle.ntfs_index.proofs.laws.walk_of_an_allocation_depends_on_blocks_met.Goals as goal

pub returns : goal.returns
returns c = walk_allocation-agrees c.args.cluster c.args.size c.args.root.now
