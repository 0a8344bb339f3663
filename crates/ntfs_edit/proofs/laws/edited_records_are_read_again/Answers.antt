use Rattle.ntfs_edit.proofs.AgainLemmas.{first-behind, read-again, in_use-again, slot-again}
use Rattle.ntfs_edit.proofs.laws.edited_records_are_read_again.Goals as goal

pub returns-clause-first : goal.returns-clause-first
returns-clause-first c is whole front = (first-behind c.args.bytes.now is whole front).0

pub returns-clause-says : goal.returns-clause-says
returns-clause-says c raws is whole front all room = read-again c.args.bytes.now raws is whole front all room

pub returns-clause-in_use : goal.returns-clause-in_use
returns-clause-in_use c raws is whole front = in_use-again c.args.bytes.now raws is whole front

pub returns-clause-slot : goal.returns-clause-slot
returns-clause-slot c number raws is whole front all room live =
    slot-again number c.args.bytes.now raws is whole front all room live
