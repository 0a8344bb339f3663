use Rattle.std.proofs.Common.{◌≡◌, ◌+◌, ◌-◌, ◌^◌, ℕ, drop, length, min}
use Rattle.ntfs_runs.specs.Clusters.{vcns}
use Rattle.ntfs_volume.specs.StreamBytes.{clusters_in}
use Rattle.ntfs_check_fixed.proofs.known.count_clusters.Given as goal

abbrev pub invariant-runs : goal.invariant-runs
invariant-runs l =
    (s : ℕ) × (l.count ≡ min s (2 ^ 64 - 1)) × (s + length (clusters_in (vcns (drop l.run-index l.runs))) ≡ length (clusters_in (vcns l.runs)))
