use Rattle.std.proofs.Common.{◌≡◌}
use Rattle.std.specs.Prelude.{is_ok}
use Rattle.ntfs_attrlist.specs.Reading.{all_or_first, list_entries}
use Rattle.ntfs_volume.proofs.list.are_entries.Given as goal

abbrev pub invariant-entries : goal.invariant-entries
invariant-entries l = record {
  can : (goal.iterator-entries).can_next l.item-iterator;
  finite : (goal.iterator-entries).is_finite l.item-iterator;
  same : is_ok (all_or_first l.item-iterator) ≡ is_ok (list_entries l.list);
}
