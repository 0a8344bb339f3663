use Rattle.std.proofs.Common.{◌≡◌, take, map}
use Rattle.ntfs_base.specs.Writes.{after_writes}
use Rattle.ntfs_base.specs.Causes.{HaveNotFallen}
use Rattle.ntfs_make.specs.Volume.{area_write}
use Rattle.ntfs_make.proofs.making.write_areas.Given as goal

abbrev pub invariant-areas : goal.invariant-areas
invariant-areas g l =
    (g.G.Image.seen l.image ≡ after_writes (map (area_write l.layout) (take l.area-index l.areas)) (g.G.Image.seen l.fn.image))
    × HaveNotFallen (g.G.Image.faults l.fn.image) (g.G.Image.faults l.image)
