-- What holds of a stretch. The words are ours.
use Rattle.std.specs.Prelude.{◌≡◌, ◌<◌, ◌≤◌, ℕ}
use Rattle.ntfs_bitmap.specs.ClusterSet.{Clusters, has, bound_of}
use Rattle.ntfs_bitmap.specs.declared.cluster_set.Stretch.{Stretch}

-- the numbers from a cluster on up to an end are all in the set, or all not in it, and no more below the bound are
pub record IsStretch (set : Clusters) (cluster : ℕ) (stretch : Stretch) : Type 0 where
  pub some : cluster < stretch.end
  pub within : stretch.end ≤ bound_of set
  pub same : (n : ℕ) → cluster ≤ n → n < stretch.end → has set n ≡ stretch.is_in
  pub longest : stretch.end < bound_of set → has set stretch.end ≡ stretch.is_in → ⊥
