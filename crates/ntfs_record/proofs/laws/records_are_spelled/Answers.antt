use Rattle.ntfs_record.proofs.SpellingLemmas.{raws-spelled, spelled-parses, parses-spelled}
use Rattle.ntfs_record.proofs.laws.records_are_spelled.Goals as goal

pub returns-clause-raws : goal.returns-clause-raws
returns-clause-raws c = raws-spelled

pub returns-clause-parses : goal.returns-clause-parses
returns-clause-parses c = spelled-parses

pub returns-clause-bytes : goal.returns-clause-bytes
returns-clause-bytes c r is = (parses-spelled c.args.bytes.now r is).same

pub returns-clause-sound : goal.returns-clause-sound
returns-clause-sound c r is = (parses-spelled c.args.bytes.now r is).is

pub returns-clause-says : goal.returns-clause-says
returns-clause-says c r is = (parses-spelled c.args.bytes.now r is).says
