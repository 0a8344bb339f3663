use Rattle.std.proofs.Common.{◌≡◌, drop}
use Rattle.ntfs_make.specs.Streams.{has_area}
use Rattle.ntfs_make.proofs.stream.has_area.Given as goal

abbrev pub invariant-areas : goal.invariant-areas
invariant-areas l = has_area (drop l.area-index l.areas) l.cluster ≡ has_area l.areas l.cluster
