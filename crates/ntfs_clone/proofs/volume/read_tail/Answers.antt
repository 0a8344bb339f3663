use Rattle.std.proofs.Common.{◌≡◌, ◌≤◌, ◌∙◌, ap, length, min, subst, sym, ℕ}
use Rattle.ntfs_boot.specs.Geometry.{bytes_of_clusters}
use Rattle.ntfs_clone.proofs.VolumeLemmas.{tail-whole}
use Rattle.ntfs_clone.proofs.volume.read_tail.Goals as goal

pub returns-clause-bytes : goal.returns-clause-bytes
returns-clause-bytes g c = λ owned told.
    let k = c.args.geometry.now in
    let image = g.G.Image.seen c.args.image.now in
    let long : length image.content ≡ image.size = g.met.G.Image.told_size c.args.image.now told in
    let end : c.min-end.result ≡ min c.device_of.result (length image.content) = c.min-end.ensures ∙ ap (min c.device_of.result) (c.len.ensures.size ∙ sym long) in
    let held = subst (λ (n : ℕ). bytes_of_clusters k ≤ n) (sym long) c.requires.opened.held in
    tail-whole k owned image.content c.read_at.new.into c.args.tail.now c.clear.new.bytes c.from.result c.min-end.result c.device_of.result c.from.ensures c.device_of.ensures.value c.requires.length
    end c.device_of.ensures.least c.device_of.ensures.most held c.read_at.auto.into (c.in_ok-read_at.ensures.bytes told) c.clear.ensures
