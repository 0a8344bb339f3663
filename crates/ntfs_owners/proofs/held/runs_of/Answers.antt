use Rattle.std.proofs.Common.{◌^◌}
use Rattle.ntfs_runs.proofs.CellsLemmas.{length-vcns}
use Rattle.ntfs_owners.proofs.HeldLemmas.{few-none}
use Rattle.ntfs_owners.proofs.held.runs_of.Goals as goal

pub returns-in-Err-BadPairs-clause-few : goal.returns-in-Err-BadPairs-clause-few
returns-in-Err-BadPairs-clause-few c = few-none c.new.result c.new.ensures

pub returns-in-Ok-clause-few : goal.returns-in-Ok-clause-few
returns-in-Ok-clause-few c = length-vcns (2 ^ 48) c.in-Ok.list c.in-Ok.ensures.spellable
