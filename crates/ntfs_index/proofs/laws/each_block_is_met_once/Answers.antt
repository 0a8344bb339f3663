use Rattle.ntfs_index.proofs.LawLemmas.{walk-distinct}
use Rattle.ntfs_index.proofs.laws.each_block_is_met_once.Goals as goal

pub returns : goal.returns
returns c = walk-distinct c.args.size c.args.root.now
