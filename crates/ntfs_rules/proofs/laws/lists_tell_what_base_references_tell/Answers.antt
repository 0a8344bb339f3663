use Rattle.ntfs_rules.proofs.GatheredLemmas.{found-all, found-joined}
use Rattle.ntfs_rules.proofs.SpanLemmas.{found-ascend}
use Rattle.ntfs_rules.proofs.laws.lists_tell_what_base_references_tell.Goals as goal

pub returns-clause-all : goal.returns-clause-all
returns-clause-all c = found-all

pub returns-clause-joined : goal.returns-clause-joined
returns-clause-joined c = found-joined

pub returns-clause-ordered : goal.returns-clause-ordered
returns-clause-ordered c = found-ascend
