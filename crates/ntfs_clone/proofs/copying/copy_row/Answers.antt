use Rattle.std.proofs.Common.{◌≡◌, ◌≤◌, arith, length, subst, sym, ℕ}
use Rattle.ntfs_boot.specs.Geometry.{bytes_of_clusters}
use Rattle.ntfs_clone.specs.CloneOf.{volume_of}
use Rattle.ntfs_clone.proofs.CopyingLemmas.{row-wrote}
use Rattle.ntfs_clone.proofs.VolumeLemmas.{cluster-below}
use Rattle.ntfs_clone.proofs.WritingLemmas.{same-wrote}
use Rattle.ntfs_clone.proofs.copying.copy_row.Goals as goal

pub returns-clause-same : goal.returns-clause-same
returns-clause-same g c = same-wrote _ _ _ _ c.write_within.ensures.wrote

pub returns-clause-copied : goal.returns-clause-copied
returns-clause-copied g c owned all told tells before =
    let k = c.args.geometry.now in
    let image = g.G.Image.seen c.args.image.now in
    let long : length image.content ≡ image.size = g.met.G.Image.told_size c.args.image.now told in
    let held = subst (λ (n : ℕ). bytes_of_clusters k ≤ n) (sym long) c.requires.opened.held in
    let below = cluster-below c.args.from c.args.count k.clusters k.cluster c.requires.within in
    row-wrote (volume_of k owned image.content) c.args.from c.args.count c.from.result c.device_of.result c.read_row.new.row _ _ c.write_within.result c.from.ensures c.device_of.ensures.value
    all (omega (arith, c.requires.within)) held (omega (arith, below, c.device_of.ensures.least, c.device_of.ensures.value)) (c.in_ok-read_row.ensures.bytes told) tells before c.write_within.ensures.wrote
