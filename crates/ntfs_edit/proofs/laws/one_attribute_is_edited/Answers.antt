use Rattle.ntfs_edit.proofs.RowLemmas.{changes-one, one-sound, one-read, begins-placed, shown-begin}
use Rattle.ntfs_edit.proofs.laws.one_attribute_is_edited.Goals as goal

pub returns-clause-one : goal.returns-clause-one
returns-clause-one c residence place f is begins = changes-one residence place c.args.bytes.now f is begins

pub returns-clause-sound : goal.returns-clause-sound
returns-clause-sound c place f one is sound = one-sound place f c.args.bytes.now one is sound

pub returns-clause-reads : goal.returns-clause-reads
returns-clause-reads c place f said one is = one-read place f c.args.bytes.now said one is

pub returns-clause-begins : goal.returns-clause-begins
returns-clause-begins c = begins-placed

pub returns-clause-shown : goal.returns-clause-shown
returns-clause-shown c = shown-begin c.args.bytes.now
