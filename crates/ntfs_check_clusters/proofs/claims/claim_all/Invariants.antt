use Rattle.std.proofs.Common.{◌≡◌, drop, take}
use Rattle.ntfs_bitmap.specs.ClusterSet.{bound_of}
use Rattle.ntfs_check_clusters.proofs.ClaimLemmas.{claims_of}
use Rattle.ntfs_check_clusters.proofs.claims.claim_all.Given as goal
use Rattle.ntfs_rules.specs.Clusters.{c8, first_double}
use Rattle.ntfs_check_clusters.specs.Outcome.{claimed_set}

abbrev pub invariant-owners : goal.invariant-owners
invariant-owners l = record {
  bound : bound_of l.set ≡ l.clusters;
  set : l.set ≡ claimed_set l.clusters (claims_of (take l.owner-index l.owners));
  same : first_double (claims_of (take l.owner-index l.owners)) (claims_of (drop l.owner-index l.owners)) ≡ c8 (claims_of l.owners);
}
