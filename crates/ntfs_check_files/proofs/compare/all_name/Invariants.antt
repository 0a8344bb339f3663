use Rattle.std.proofs.Common.{◌≡◌}
use Rattle.ntfs_check_records.specs.Entries.{good_entries}
use Rattle.ntfs_attrlist.specs.Reading.{list_items}
use Rattle.ntfs_check_files.specs.Members.{all_name}
use Rattle.ntfs_check_files.proofs.compare.all_name.Given as goal

abbrev pub invariant-entries : goal.invariant-entries
invariant-entries l = record {
  can : (goal.iterator-entries).can_next l.item-iterator;
  finite : (goal.iterator-entries).is_finite l.item-iterator;
  same : all_name (good_entries l.item-iterator) l.kept ≡ all_name (good_entries (list_items l.list)) l.kept;
}
