use Rattle.std.proofs.Common.{◌≡◌, ◌+◌}
use Rattle.ntfs_bitmap.specs.ClusterSet.{count_where}
use Rattle.ntfs_bitmap.specs.Runs.{is_covered, lengths_of}
use Rattle.ntfs_bitmap.proofs.CountLemmas.{clipped}
use Rattle.ntfs_bitmap.proofs.runs.count_below.Given as goal

abbrev pub invariant-runs : goal.invariant-runs
invariant-runs l = l.count + clipped l.cluster l.first-iterator ≡ count_where (is_covered (lengths_of l.runs)) l.cluster
