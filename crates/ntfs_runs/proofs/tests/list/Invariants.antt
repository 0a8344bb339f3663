use Rattle.std.proofs.Common.{◌≡◌, take}
use Rattle.ntfs_runs.proofs.tests.list.Given as goal

abbrev pub invariant-runs : goal.invariant-runs
invariant-runs l = l.list ≡ take l.run-index l.runs
