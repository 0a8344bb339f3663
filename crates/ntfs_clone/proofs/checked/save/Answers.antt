use Rattle.std.proofs.Common.{Ok, ap, subst, ◌∙◌}
use Rattle.ntfs_base.specs.Frames.{Puts}
use Rattle.ntfs_bitmap.specs.ClusterSet.{Clusters}
use Rattle.ntfs_clone.proofs.SameLemmas.{found-volume}
use Rattle.ntfs_clone.specs.CloneOf.{Volume, clone_of, volume_of}
use Rattle.ntfs_clone.specs.Fault.{clone_origin}
use Rattle.ntfs_clone.proofs.checked.save.Goals as goal

pub returns-clause-told : goal.returns-clause-told
returns-clause-told g c told =
    let volume = c.args.checked.now.volume in
    let s = g.G.Image.seen volume.image.now in
    subst (λ (v : Volume). Puts clone_origin (Ok (clone_of v)) (g.K.Sink.seen c.args.sink.now) c.save_volume.result (g.K.Sink.seen c.save_volume.new.sink))
    (ap (λ (owned : Clusters). volume_of volume.table.geometry owned s.content) c.owned.ensures ∙ found-volume s volume.table c.args.checked.now.findings c.requires.stands told)
    (c.save_volume.ensures.told told)
