use Rattle.ntfs_record.proofs.SlotLemmas.{map_slots-map_slots, map_slots-agree, first_not-map}
use Rattle.ntfs_record.proofs.laws.records_are_mapped.Goals as goal

pub returns-clause-composed : goal.returns-clause-composed
returns-clause-composed c = map_slots-map_slots

pub returns-clause-agreeing : goal.returns-clause-agreeing
returns-clause-agreeing c = map_slots-agree

pub returns-clause-first : goal.returns-clause-first
returns-clause-first c = first_not-map
