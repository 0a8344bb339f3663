use Rattle.std.proofs.Common.{arith, sym, ◌∙◌}
use Rattle.std.proofs.lemmas.List.Filters.{FiltersInPlace-more_no, FiltersInPlace-more_set}
use Rattle.ntfs_owners.proofs.sweep.drop_ended.Goals as goal
use Rattle.ntfs_owners.proofs.sweep.drop_ended.Goals.{then-ends_behind, else-ends_behind}

pub active-preserved : goal.active-preserved
active-preserved c = elim c.if-ends_behind.branch [
  | then-ends_behind w ↦ rw (w.active-is, w.kept-is) (FiltersInPlace-more_set c.active.invariant (omega (arith, c.active-test.true, c.len.ensures)) (sym c.ends_behind.ensures ∙ w.if-ends_behind.true) c.index-number.ensures)
  | else-ends_behind w ↦ rw (w.active-is, w.kept-is) (FiltersInPlace-more_no c.active.invariant (omega (arith, c.active-test.true, c.len.ensures)) (sym c.ends_behind.ensures ∙ w.if-ends_behind.false) c.index-number.ensures)
]
