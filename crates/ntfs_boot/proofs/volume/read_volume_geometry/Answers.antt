use Rattle.std.proofs.Common.{sym, ◌∙◌}
use Rattle.ntfs_base.proofs.FramesLemmas.{gives_same}
use Rattle.ntfs_boot.specs.Geometry.{image_origin}
use Rattle.ntfs_boot.proofs.GeometryLemmas.{volume-short, volume-sector}
use Rattle.ntfs_boot.proofs.volume.read_volume_geometry.Goals as goal

pub returns-then-len-lt512-clause-gives : goal.returns-then-len-lt512-clause-gives
returns-then-len-lt512-clause-gives g c told settled =
    volume-short _ _ (c.len-len.ensures.told told ∙ sym c.len-len.ensures.size) c.if-len-lt512.true

pub returns-clause-gives : goal.returns-clause-gives
returns-clause-gives g c told =
    let size = c.len-len.ensures.told told ∙ sym c.len-len.ensures.size in
    gives_same image_origin _ _ (volume-sector _ _ _ size c.if-len-lt512.false (c.in_ok-read_at.ensures.bytes told) ∙ sym c.geometry_in.ensures.exact)
