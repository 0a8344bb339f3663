use Rattle.ntfs_rules.proofs.AcceptsLemmas.{accepted-opened, accepted-whole, whole-accepted}
use Rattle.ntfs_rules.proofs.laws.accepted_images_are_whole.Goals as goal

pub returns-clause-only : goal.returns-clause-only
returns-clause-only c = accepted-whole

pub returns-clause-opened : goal.returns-clause-opened
returns-clause-opened c = accepted-opened

pub returns-clause-each : goal.returns-clause-each
returns-clause-each c = whole-accepted
