use Rattle.ntfs_meaning.proofs.ThereLemmas.{bad-there, data-there, directory-there, information-there}
use Rattle.ntfs_meaning.proofs.ApartLemmas.{stream-below, stream-owned, streams-apart}
use Rattle.ntfs_meaning.proofs.laws.accepted_streams_are_there.Goals as goal

pub returns-clause-fixed : goal.returns-clause-fixed
returns-clause-fixed c = data-there

pub returns-clause-bad : goal.returns-clause-bad
returns-clause-bad c = bad-there

pub returns-clause-information : goal.returns-clause-information
returns-clause-information c = information-there

pub returns-clause-directories : goal.returns-clause-directories
returns-clause-directories c = directory-there

pub returns-clause-below : goal.returns-clause-below
returns-clause-below c = stream-below

pub returns-clause-owned : goal.returns-clause-owned
returns-clause-owned c = stream-owned

pub returns-clause-apart : goal.returns-clause-apart
returns-clause-apart c = streams-apart
