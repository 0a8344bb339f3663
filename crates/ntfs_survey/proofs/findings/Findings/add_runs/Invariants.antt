use Rattle.std.proofs.Common.{◌≡◌, ◌+◌, drop, length}
use Rattle.ntfs_runs.specs.Clusters.{vcns}
use Rattle.ntfs_survey.specs.Owned.{run_owners}
use Rattle.ntfs_survey.specs.Surveying.{with_owners}
use Rattle.ntfs_survey.proofs.findings.Findings.add_runs.Given as goal

abbrev pub invariant-runs : goal.invariant-runs
invariant-runs l = record {
  vcn : l.vcn + length (vcns (drop l.run-index l.runs)) ≡ l.fn.lowest + length (vcns l.runs);
  owners : with_owners (run_owners l.holder.number l.holder.place l.vcn (drop l.run-index l.runs)) l.self
      ≡ with_owners (run_owners l.holder.number l.holder.place l.fn.lowest l.runs) l.initial.self;
}
