use Rattle.ntfs_clone.proofs.FewLemmas.{few-commands}
use Rattle.ntfs_clone.proofs.laws.clones_have_few_commands.Goals as goal

pub returns : goal.returns
returns c = few-commands
