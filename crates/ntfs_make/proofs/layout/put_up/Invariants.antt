use Rattle.std.proofs.Common.{◌≡◌, ◌≤◌, ◌++◌, ◌*◌, ◌^◌, drop}
use Rattle.ntfs_make.specs.Areas.{areas_up}
use Rattle.ntfs_make.proofs.layout.put_up.Given as goal

abbrev pub invariant-rows : goal.invariant-rows
invariant-rows l =
    (l.areas.items ++ areas_up l.shape l.start (drop l.row-index l.rows) ≡ l.fn.areas.items ++ areas_up l.shape 0 l.rows)
    × (l.start ≤ l.row-index * 2 ^ 34)
