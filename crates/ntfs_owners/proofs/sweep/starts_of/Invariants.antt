use Rattle.std.proofs.Common.{◌≡◌, ◌++◌, drop, map}
use Rattle.ntfs_owners.specs.Sweep.{row_span, starts_from}
use Rattle.ntfs_owners.proofs.sweep.starts_of.Given as goal

abbrev pub invariant-rows : goal.invariant-rows
invariant-rows l = l.starts.items ++ starts_from l.number (drop l.number (map row_span l.rows)) ≡ starts_from 0 (map row_span l.rows)
