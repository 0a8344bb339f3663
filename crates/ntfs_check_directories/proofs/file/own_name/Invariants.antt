use Rattle.std.proofs.Common.{◌≡◌, map}
use Rattle.std.specs.List.{list_any}
use Rattle.ntfs_check_directories.proofs.file.own_name.Given as goal
use Rattle.ntfs_check_directories.specs.Names.{shows_name}
use Rattle.ntfs_record.specs.Views.{placed_of, shown_placed}

abbrev pub invariant-attributes : goal.invariant-attributes
invariant-attributes l = record {
  can : (goal.iterator-attributes).can_next l.attribute-iterator;
  finite : (goal.iterator-attributes).is_finite l.attribute-iterator;
  same : list_any (shows_name l.sought) (map shown_placed l.attribute-iterator) ≡ list_any (shows_name l.sought) (map shown_placed (placed_of l.view));
}
