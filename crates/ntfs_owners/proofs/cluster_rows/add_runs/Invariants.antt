use Rattle.std.proofs.Common.{◌≡◌, ◌+◌, ◌++◌, drop, length, map}
use Rattle.ntfs_runs.specs.Clusters.{vcns}
use Rattle.ntfs_owners.specs.Sweep.{run_spans, row_span}
use Rattle.ntfs_owners.proofs.cluster_rows.add_runs.Given as goal

abbrev pub invariant-runs : goal.invariant-runs
invariant-runs l = record {
  vcn : l.vcn + length (vcns (drop l.run-index l.runs)) ≡ l.fn.lowest + length (vcns l.runs);
  same : map row_span l.rows.items ++ run_spans l.from l.end l.text l.vcn (drop l.run-index l.runs) ≡ map row_span l.initial.rows.items ++ run_spans l.from l.end l.text l.fn.lowest l.runs;
}
