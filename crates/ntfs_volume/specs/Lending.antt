-- What is lent out of an opened volume. The words are ours.
use Rattle.std.specs.Prelude.{[]}
use Rattle.std.specs.Borrow.{Lends, MutBor, Fml, RattleType}
use mir.Syntax.{named}
use Rattle.ntfs_volume.specs.declared.volume.Volume.{Volume}
use Rattle.ntfs_volume.specs.contracts.volume.Volume.{the_row}

-- the volume over another state of its image
abbrev pub with_image : {G : Type 0} → Volume G → G → Volume G
with_image v image = record v { image = record v.image { now = image } }

-- the volume ends with the image as it is left
abbrev pub LendsImage : (G : RattleType) → MutBor (Volume G.Denot) → MutBor G.Denot → Fml
LendsImage G v r = Lends (the_row (record { mir = named 1; lft = [] }) G) G v r (with_image v.now)
