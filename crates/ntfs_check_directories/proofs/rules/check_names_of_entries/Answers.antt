use Rattle.ntfs_check_directories.proofs.RuleLemmas.{names-given}
use Rattle.ntfs_check_directories.proofs.rules.check_names_of_entries.Goals as goal

pub returns-clause-gives : goal.returns-clause-gives
returns-clause-gives g c told = names-given c.args.table.now (g.G.Image.seen c.args.image.now).content c.ask_all.result (c.ask_all.ensures.gives told tt)
