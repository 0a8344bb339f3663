use Rattle.std.proofs.Common.{◌≡◌, ◌++◌, drop, map}
use Rattle.ntfs_owners.specs.Held.{held_of}
use Rattle.ntfs_owners.specs.Sweep.{held_spans, row_span}
use Rattle.ntfs_owners.proofs.cluster_rows.rows_in.Given as goal

abbrev pub invariant-held : goal.invariant-held
invariant-held l = map row_span l.rows.items ++ held_spans l.from l.end (map held_of (drop l.holding-index l.held)) ≡ held_spans l.from l.end (map held_of l.held)
