use Rattle.std.proofs.Common.{ap, ◌∙◌}
use Rattle.ntfs_boot.proofs.GeometryLemmas.{each-err, fields-refusal}
use Rattle.ntfs_boot.specs.Geometry.{IsBootRefusal, boot_geometry}
use Rattle.ntfs_boot.proofs.geometry.read_geometry.Goals as goal

pub returns-clause-refuses : goal.returns-clause-refuses
returns-clause-refuses c = each-err IsBootRefusal _ _ (c.geometry_of.ensures.exact ∙ ap boot_geometry c.read.ensures) (fields-refusal c.args.sector.now c.fits-sector)
