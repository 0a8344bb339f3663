use Rattle.std.proofs.lemmas.Result.{err_from_is_err_and}
use Rattle.ntfs_base.specs.Bytes.{cluster_at}
use Rattle.ntfs_base.specs.Frames.{Gives}
use Rattle.ntfs_base.proofs.FramesLemmas.{gives_as, told_still}
use Rattle.ntfs_boot.specs.Geometry.{image_origin}
use Rattle.ntfs_volume.specs.Fault.{volume_fault, volume_origin}
use Rattle.ntfs_volume.specs.MftMap.{mft_map}
use Rattle.ntfs_volume.specs.Opened.{Opened}
use Rattle.ntfs_volume.proofs.TableMapLemmas.{opened-geometry, opened-gives, volume-origin}
use Rattle.ntfs_volume.proofs.mft_map.read_table.Goals as goal

pub returns-in_err-geometry-clause-gives : goal.returns-in_err-geometry-clause-gives
returns-in_err-geometry-clause-gives g c told =
    let p = err_from_is_err_and c.from_residual.result c.from_residual.ensures.1 in
    rw (p.1, p.2) (λ settled. opened-geometry (g.G.Image.seen c.args.image.now).content _
    (gives_as image_origin volume_origin volume_fault volume-origin _ _ (c.in_err-geometry.ensures.gives told) settled))

pub returns-clause-gives : goal.returns-clause-gives
returns-clause-gives g c told =
    let k = c.in_ok-geometry.geometry in
    let kept = told_still g.G.Image _ _ (λ content. Gives volume_origin (λ (o : Opened). o.map) (mft_map k (cluster_at content k.cluster)) c.read_map.result)
    c.in_ok-geometry.ensures.reads.seen c.read_map.ensures.gives in
    opened-gives (g.G.Image.seen c.args.image.now).content k c.read_map.result (c.in_ok-geometry.ensures.gives told) (kept told) c.read_map.ensures.geometry
