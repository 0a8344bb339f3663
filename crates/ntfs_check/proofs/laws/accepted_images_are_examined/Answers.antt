use Rattle.ntfs_check.proofs.CheckedLemmas.{accepted-examined, examined-accepted, examined-found, first-refused, refused-first}
use Rattle.ntfs_check.proofs.laws.accepted_images_are_examined.Goals as goal
use Rattle.ntfs_rules.specs.Laws.{data_in}

pub returns-clause-accepted : goal.returns-clause-accepted
returns-clause-accepted c = examined-accepted

pub returns-clause-found : goal.returns-clause-found
returns-clause-found c image o f opened is = examined-found (data_in image o) f is

pub returns-clause-examined : goal.returns-clause-examined
returns-clause-examined c = accepted-examined

pub returns-clause-refused : goal.returns-clause-refused
returns-clause-refused c image o broken opened is = refused-first image o broken.rule broken.number opened is

pub returns-clause-broken : goal.returns-clause-broken
returns-clause-broken c image o broken opened is = first-refused image o broken.rule broken.number opened is
