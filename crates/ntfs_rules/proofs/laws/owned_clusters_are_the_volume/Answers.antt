use Rattle.std.proofs.Common.{ap}
use Rattle.ntfs_rules.proofs.AcceptsLemmas.{whole-accepted}
use Rattle.ntfs_rules.proofs.CloneLemmas.{same-data, same-opened, same-whole}
use Rattle.ntfs_rules.specs.Accepts.{claims_in}
use Rattle.ntfs_rules.proofs.laws.owned_clusters_are_the_volume.Goals as goal

pub returns-clause-opened : goal.returns-clause-opened
returns-clause-opened c = same-opened

pub returns-clause-data : goal.returns-clause-data
returns-clause-data c = same-data

pub returns-clause-whole : goal.returns-clause-whole
returns-clause-whole c = same-whole

pub returns-clause-accepted : goal.returns-clause-accepted
returns-clause-accepted c image other o is holds = whole-accepted other o (same-whole image other o is holds)

pub returns-clause-claims : goal.returns-clause-claims
returns-clause-claims c image other o is holds = ap claims_in (same-data image other o is holds)
