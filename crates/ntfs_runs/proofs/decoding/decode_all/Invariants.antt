use Rattle.std.proofs.Common.{◌≡◌, ◌++◌, map}
use Rattle.std.specs.Prelude.{Ok}
use Rattle.ntfs_runs.specs.Reading.{reading, items}
use Rattle.ntfs_runs.proofs.decoding.decode_all.Given as goal

abbrev pub invariant-pairs : goal.invariant-pairs
invariant-pairs l = map Ok l.runs ++ l.item-iterator ≡ items (reading l.bytes)
