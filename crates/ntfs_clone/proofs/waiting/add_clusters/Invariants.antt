use Rattle.std.proofs.Common.{◌≡◌, ◌++◌}
use Rattle.ntfs_clone.specs.Saving.{spelled_row}
use Rattle.ntfs_clone.proofs.waiting.add_clusters.Given as goal

abbrev pub invariant-clusters : goal.invariant-clusters
invariant-clusters l = l.waiting.items ≡ l.initial.waiting.items ++ spelled_row l.row l.cluster 0 l.index
