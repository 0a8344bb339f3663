use Rattle.std.proofs.Common.{◌≡◌, ◌+◌, ◌*◌, ◌≤◌, length}
use Rattle.std.specs.Result.{result_map_both}
use Rattle.ntfs_attrlist.specs.Reading.{all_or_first, list_entries}
use Rattle.ntfs_attrlist.proofs.tests.entry_count.Given as goal

abbrev pub invariant-entries : goal.invariant-entries
invariant-entries l = record {
  few : 26 * (l.count + length l.item-iterator) ≤ length l.list + 25;
  same : result_map_both (λ es. l.count + length es) (λ fault. fault) (all_or_first l.item-iterator) ≡ result_map_both length (λ fault. fault) (list_entries l.list);
}
