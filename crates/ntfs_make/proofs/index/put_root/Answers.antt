use Rattle.ntfs_make.proofs.ShapeLemmas.{bounds}
use Rattle.ntfs_make.proofs.index.put_root.Goals as goal

pub clusters_per_block-requires : goal.clusters_per_block-requires
clusters_per_block-requires c = let b = bounds _ c.shape.ensures.range in b.least
