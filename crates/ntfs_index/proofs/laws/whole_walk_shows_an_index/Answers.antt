use Rattle.ntfs_index.proofs.TreeLemmas.{index-walk}
use Rattle.ntfs_index.proofs.laws.whole_walk_shows_an_index.Goals as goal

pub returns : goal.returns
returns c = index-walk c.args.size c.args.root.now
