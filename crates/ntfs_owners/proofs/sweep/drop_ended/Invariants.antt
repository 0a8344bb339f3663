use Rattle.std.proofs.Common.{◌-◌, length, map}
use Rattle.std.specs.Prelude.{nat_lt}
use Rattle.std.proofs.lemmas.List.Filters.{FiltersInPlace}
use Rattle.ntfs_owners.specs.Sweep.{span_end, row_span}
use Rattle.ntfs_owners.proofs.sweep.drop_ended.Given as goal

abbrev pub invariant-active : goal.invariant-active
invariant-active l = FiltersInPlace (λ i. nat_lt l.at (span_end (map row_span l.rows) i)) l.initial.active.items l.active.items l.kept l.index

abbrev pub decreases-active : goal.decreases-active
decreases-active l = length l.active.items - l.index
