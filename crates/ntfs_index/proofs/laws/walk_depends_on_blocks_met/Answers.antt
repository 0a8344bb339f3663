use Rattle.ntfs_index.proofs.LawLemmas.{walk-agrees}
use Rattle.ntfs_index.proofs.laws.walk_depends_on_blocks_met.Goals as goal

pub returns : goal.returns
returns c = walk-agrees c.args.size c.args.root.now
