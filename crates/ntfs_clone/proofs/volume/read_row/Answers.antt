use Rattle.std.proofs.Common.{◌*◌, ap, arith}
use Rattle.ntfs_clone.proofs.VolumeLemmas.{cluster-below}
use Rattle.ntfs_clone.proofs.volume.read_row.Goals as goal

pub read_at-requires : goal.read_at-requires
read_at-requires g c =
    let k = c.args.geometry.now in
    let below = cluster-below c.args.from c.args.count k.clusters k.cluster c.requires.within in
    let place = ap (λ n. c.args.from * n) c.from.ensures in
    omega (arith, below, place, c.requires.length, c.requires.opened.held)
