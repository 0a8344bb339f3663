use Rattle.ntfs_words.proofs.InfoLaws.{apart, after, joined, equals, long}
use Rattle.ntfs_words.proofs.laws.info_takes_a_number.Goals as goal

pub returns-clause-apart : goal.returns-clause-apart
returns-clause-apart c = apart

pub returns-clause-after : goal.returns-clause-after
returns-clause-after c = after

pub returns-clause-joined : goal.returns-clause-joined
returns-clause-joined c = joined

pub returns-clause-equals : goal.returns-clause-equals
returns-clause-equals c = equals

pub returns-clause-long : goal.returns-clause-long
returns-clause-long c = long
