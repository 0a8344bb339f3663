use Rattle.ntfs_volume.proofs.LawLemmas.{slot-absent, slot-read, slot-wrong}
use Rattle.ntfs_volume.proofs.laws.records_are_slots.Goals as goal

pub returns-clause-read : goal.returns-clause-read
returns-clause-read c = slot-read

pub returns-clause-absent : goal.returns-clause-absent
returns-clause-absent c = slot-absent

pub returns-clause-wrong : goal.returns-clause-wrong
returns-clause-wrong c = slot-wrong
