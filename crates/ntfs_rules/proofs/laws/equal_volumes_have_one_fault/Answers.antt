use Rattle.ntfs_rules.proofs.AcceptsLemmas.{same-fault}
use Rattle.ntfs_rules.proofs.laws.equal_volumes_have_one_fault.Goals as goal

pub returns : goal.returns
returns c image other o p opened there same = same-fault image other o p opened there same
