use Rattle.std.proofs.Common.{arith}
use Rattle.ntfs_record.proofs.Sound.{sound_header}
use Rattle.ntfs_record.proofs.soundness.unsound_of.Goals as goal

pub in_use_of-used-requires : goal.in_use_of-used-requires
in_use_of-used-requires c = let h = sound_header c.args.bytes.now c.requires in omega arith

pub first_attribute_of-requires : goal.first_attribute_of-requires
first_attribute_of-requires c = let h = sound_header c.args.bytes.now c.requires in omega arith

pub first_unsound-requires-clause-place_within : goal.first_unsound-requires-clause-place_within
first_unsound-requires-clause-place_within c = let h = sound_header c.args.bytes.now c.requires in omega arith

pub first_unsound-requires-clause-within : goal.first_unsound-requires-clause-within
first_unsound-requires-clause-within c = let h = sound_header c.args.bytes.now c.requires in omega arith
