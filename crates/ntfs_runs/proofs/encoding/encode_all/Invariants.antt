use Rattle.std.proofs.Common.{drop}
use Rattle.ntfs_runs.specs.Canon.{canon}
use Rattle.ntfs_runs.specs.Clusters.{vcns}
use Rattle.ntfs_runs.proofs.WriterLemmas.{GoesOn}
use Rattle.ntfs_runs.proofs.encoding.encode_all.Given as goal

abbrev pub invariant-runs : goal.invariant-runs
invariant-runs l = GoesOn l.writer l.initial.into l.into (drop l.run-index l.runs) (canon (vcns l.runs))
