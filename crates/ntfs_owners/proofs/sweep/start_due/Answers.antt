use Rattle.std.proofs.Common.{drop}
use Rattle.std.proofs.lemmas.List.Sorted.{IsNonDecreasingBy-from_sort}
use Rattle.ntfs_owners.proofs.SweepLemmas.{swept-sorted}
use Rattle.ntfs_owners.proofs.sweep.start_due.Goals as goal

pub returns-clause-swept : goal.returns-clause-swept
returns-clause-swept c first end m before =
    swept-sorted first end m c.args.at c.add_due.new.active.items c.sort_unstable.new.self.items (drop c.add_due.new.next c.args.starts.now) c.sort_unstable.ensures.permutation
    (c.in_ok-add_due.ensures.swept first end m before)

pub returns-clause-order : goal.returns-clause-order
returns-clause-order c before = IsNonDecreasingBy-from_sort (λ x. x) _ c.sort_unstable.ensures.sorted
