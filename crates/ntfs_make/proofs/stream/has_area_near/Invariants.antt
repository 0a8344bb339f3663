use Rattle.std.proofs.Common.{◌≡◌, ◌<◌, ◌+◌, ℕ, drop}
use Rattle.ntfs_make.specs.Streams.{has_area}
use Rattle.ntfs_make.proofs.stream.has_area_near.Given as goal

abbrev pub invariant-areas : goal.invariant-areas
invariant-areas l = (i : ℕ) → i < 8 → has_area (drop l.area-index l.areas) (l.first + i) ≡ has_area l.areas (l.first + i)
