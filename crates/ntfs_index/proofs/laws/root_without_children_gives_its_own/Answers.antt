use Rattle.ntfs_index.proofs.LawLemmas.{walk-own_entries, walk-own_met}
use Rattle.ntfs_index.proofs.laws.root_without_children_gives_its_own.Goals as goal

pub returns-clause-entries : goal.returns-clause-entries
returns-clause-entries c = walk-own_entries c.args.size c.args.root.now

pub returns-clause-met : goal.returns-clause-met
returns-clause-met c = walk-own_met c.args.size c.args.root.now
