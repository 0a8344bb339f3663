use Rattle.std.proofs.Common.{ap, subst, ◌∙◌}
use Rattle.ntfs_bitmap.specs.ClusterSet.{Clusters}
use Rattle.ntfs_clone.proofs.SameLemmas.{found-volume}
use Rattle.ntfs_clone.specs.CloneOf.{Volume, volume_of}
use Rattle.ntfs_clone.specs.Copying.{IsCopied}
use Rattle.ntfs_clone.proofs.checked.copy_raw.Goals as goal

pub returns-clause-copied : goal.returns-clause-copied
returns-clause-copied g c told target_told =
    let volume = c.args.checked.now.volume in
    let s = g.G.Image.seen volume.image.now in
    subst (λ (v : Volume). IsCopied v c.copy_volume.result (g.F.Image.seen c.copy_volume.new.target).content)
    (ap (λ (owned : Clusters). volume_of volume.table.geometry owned s.content) c.owned.ensures ∙ found-volume s volume.table c.args.checked.now.findings c.requires.stands told)
    (c.copy_volume.ensures.copied told target_told)
