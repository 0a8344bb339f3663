use Rattle.std.proofs.Common.{◌≡◌, ◌++◌, ◌+◌, drop}
use Rattle.ntfs_make.specs.Areas.{areas_down}
use Rattle.ntfs_make.proofs.layout.put_down.Given as goal

abbrev pub invariant-rows : goal.invariant-rows
invariant-rows l =
    l.areas.items ++ areas_down l.shape l.bound (drop l.row-index l.rows)
    ≡ l.fn.areas.items ++ areas_down l.shape (l.shape.clusters + 1) l.rows
