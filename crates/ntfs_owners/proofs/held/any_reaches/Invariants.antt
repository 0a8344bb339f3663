use Rattle.std.proofs.Common.{◌≡◌, drop}
use Rattle.std.specs.List.{list_any}
use Rattle.ntfs_owners.specs.Held.{reaches}
use Rattle.ntfs_owners.proofs.held.any_reaches.Given as goal

abbrev pub invariant-runs : goal.invariant-runs
invariant-runs l = list_any (reaches l.from l.end) (drop l.run-index l.runs) ≡ list_any (reaches l.from l.end) l.runs
