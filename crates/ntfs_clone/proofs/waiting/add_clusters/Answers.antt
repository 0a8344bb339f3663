use Rattle.std.proofs.Common.{◌≡◌, ◌+◌, ◌-◌, ◌*◌, ap, arith, drop, take}
use Rattle.ntfs_clone.proofs.VolumeLemmas.{row-next}
use Rattle.ntfs_clone.proofs.waiting.add_clusters.Goals as goal

pub clusters-preserved : goal.clusters-preserved
clusters-preserved c =
    let place = c.clusters.index * c.args.cluster in
    let count : place + c.args.cluster - place ≡ c.args.cluster = omega arith in
    row-next c.args.row.now c.args.waiting.now.items c.clusters.waiting.items _ _ _ c.args.cluster c.clusters.index c.clusters.invariant c.in_ok-extend_from_slice.ensures.items
    (ap (λ n. take n (drop place c.args.row.now)) count) c.in_ok-extend_from_slice-2.ensures.items
