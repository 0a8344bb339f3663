use Rattle.ntfs_record.proofs.SlotLemmas.{slot-idle, slot-other, slot-own, slot-baad}
use Rattle.ntfs_record.proofs.laws.slots_are_told.Goals as goal

pub returns-clause-idle : goal.returns-clause-idle
returns-clause-idle c = slot-idle c.args.number c.args.raw.now

pub returns-clause-other : goal.returns-clause-other
returns-clause-other c = slot-other c.args.number c.args.raw.now

pub returns-clause-own : goal.returns-clause-own
returns-clause-own c = slot-own c.args.number c.args.raw.now

pub returns-clause-baad : goal.returns-clause-baad
returns-clause-baad c = slot-baad c.args.number c.args.raw.now
