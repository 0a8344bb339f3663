use Rattle.std.proofs.Common.{arith}
use Rattle.ntfs_make.proofs.ShapeLemmas.{bounds, clusters_for-le, bitmap_size-le}
use Rattle.ntfs_make.proofs.layout.area_cluster_count.Goals as goal

pub clusters_for-requires-clause-cluster : goal.clusters_for-requires-clause-cluster
clusters_for-requires-clause-cluster c = let b = bounds _ c.requires in b.least

pub clusters_for-requires-clause-most : goal.clusters_for-requires-clause-most
clusters_for-requires-clause-most c = let b = bounds _ c.requires in b.most

pub clusters_for-requires-in-ForBitmap-clause-bytes : goal.clusters_for-requires-in-ForBitmap-clause-bytes
clusters_for-requires-in-ForBitmap-clause-bytes c = let b = bounds _ c.requires in let most = bitmap_size-le c.args.shape.now.clusters in omega arith

pub clusters_for-requires-in-ForBitmap-clause-cluster : goal.clusters_for-requires-in-ForBitmap-clause-cluster
clusters_for-requires-in-ForBitmap-clause-cluster c = let b = bounds _ c.requires in b.least

pub clusters_for-requires-in-ForBitmap-clause-most : goal.clusters_for-requires-in-ForBitmap-clause-most
clusters_for-requires-in-ForBitmap-clause-most c = let b = bounds _ c.requires in b.most

pub returns-in-ForBytes-clause-small : goal.returns-in-ForBytes-clause-small
returns-in-ForBytes-clause-small c =
    let b = bounds _ c.requires in
    let most = clusters_for-le c.from.result c.args.shape.now.cluster in
    omega arith

pub returns-in-ForBitmap-clause-small : goal.returns-in-ForBitmap-clause-small
returns-in-ForBitmap-clause-small c =
    let b = bounds _ c.requires in
    let bits = bitmap_size-le c.args.shape.now.clusters in
    let most = clusters_for-le c.bitmap_size.result c.args.shape.now.cluster in
    omega arith
