use Rattle.std.proofs.Common.{◌≡◌, ◌≤◌, arith, length, subst, sym, ℕ}
use Rattle.std.proofs.lemmas.Result.{err_from_is_err_and}
use Rattle.ntfs_boot.specs.Geometry.{bytes_of_clusters}
use Rattle.ntfs_clone.specs.CloneOf.{volume_of}
use Rattle.ntfs_clone.specs.Copying.{front}
use Rattle.ntfs_clone.proofs.CopyingLemmas.{tail-wrote}
use Rattle.ntfs_clone.proofs.WritingLemmas.{same-wrote}
use Rattle.ntfs_clone.proofs.copying.copy_tail.Goals as goal

pub returns-in_err-read_tail-clause-copied : goal.returns-in_err-read_tail-clause-copied
returns-in_err-read_tail-clause-copied g c owned told tells before =
    let p = err_from_is_err_and c.from_residual.result c.from_residual.ensures.1 in
    rw p.1 (front c.args.geometry.now.clusters (omega arith) before)

pub returns-clause-same : goal.returns-clause-same
returns-clause-same g c = same-wrote _ _ _ _ c.write_within.ensures.wrote

pub returns-clause-copied : goal.returns-clause-copied
returns-clause-copied g c owned told tells before =
    let k = c.args.geometry.now in
    let image = g.G.Image.seen c.args.image.now in
    let long : length image.content ≡ image.size = g.met.G.Image.told_size c.args.image.now told in
    let held = subst (λ (n : ℕ). bytes_of_clusters k ≤ n) (sym long) c.requires.opened.held in
    tail-wrote (volume_of k owned image.content) c.from.result c.device_of.result c.read_tail.new.tail _ _ c.write_within.result c.from.ensures c.device_of.ensures.value
    held (omega (arith, c.device_of.ensures.least, c.device_of.ensures.value)) (c.in_ok-read_tail.ensures.bytes owned told) tells before c.write_within.ensures.wrote
