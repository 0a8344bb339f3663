use Rattle.ntfs_index.proofs.TreeLemmas.{walk-entries, walk-whole, walk-met}
use Rattle.ntfs_index.proofs.laws.index_is_walked_in_order.Goals as goal

pub returns-clause-entries : goal.returns-clause-entries
returns-clause-entries c = walk-entries c.args.size c.args.root.now

pub returns-clause-whole : goal.returns-clause-whole
returns-clause-whole c = walk-whole c.args.size c.args.root.now

pub returns-clause-met : goal.returns-clause-met
returns-clause-met c = walk-met c.args.size c.args.root.now
