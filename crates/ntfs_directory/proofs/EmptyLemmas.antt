-- An index without an allocation.
use Rattle.std.proofs.Common.{[], refl}
use Rattle.ntfs_boot.specs.declared.geometry.Geometry.{Geometry}
use Rattle.ntfs_runs.specs.Cells.{are_cells}
use Rattle.ntfs_volume.specs.Streams.{IsReadable, value_stream}
use Rattle.std.proofs.lemmas.Bool.{true≢false}

pub none-readable : (g : Geometry) → IsReadable g (value_stream 0 [])
unfolding are_cells
none-readable g = record { cells = refl; room = λ is. absurd (true≢false is) }
