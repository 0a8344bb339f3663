use Rattle.std.proofs.Common.{◌≡◌, ◌+◌, if◌then◌else◌}
use Rattle.ntfs_check_records.specs.Entries.{good_entries}
use Rattle.ntfs_attrlist.specs.Reading.{list_items}
use Rattle.ntfs_check_files.specs.Members.{told_member}
use Rattle.ntfs_check_files.proofs.compare.is_named_once.Given as goal
use Rattle.ntfs_rules.specs.Files.{count_of, names_member}

abbrev pub invariant-entries : goal.invariant-entries
invariant-entries l = record {
  can : (goal.iterator-entries).can_next l.item-iterator;
  finite : (goal.iterator-entries).is_finite l.item-iterator;
  same : (if l.found then 1 else 0) + count_of (names_member (told_member l.attribute)) (good_entries l.item-iterator) ≡ count_of (names_member (told_member l.attribute)) (good_entries (list_items l.list));
}
