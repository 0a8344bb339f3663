use Rattle.ntfs_check_directories.proofs.AskedLemmas.{said-given, said-none}
use Rattle.ntfs_check_directories.proofs.asked.directory_in.Goals as goal

pub returns-in-None : goal.returns-in-None
returns-in-None c = said-none c.args.number c.args.raw.now c.in-None.ensures

pub returns-in-Some : goal.returns-in-Some
returns-in-Some c = said-given c.args.number c.args.raw.now c.in-Some.view c.directory_said.result c.in-Some.ensures c.directory_said.ensures
