use Rattle.std.proofs.Common.{◌≡◌, map}
use Rattle.std.specs.List.{list_all}
use Rattle.ntfs_check_streams.proofs.file.are_own.Given as goal
use Rattle.ntfs_check_streams.specs.Said.{are_own, shown_in}
use Rattle.ntfs_record.specs.Views.{placed_of, shown_placed}

abbrev pub invariant-attributes : goal.invariant-attributes
invariant-attributes l = record {
  can : (goal.iterator-attributes).can_next l.attribute-iterator;
  finite : (goal.iterator-attributes).is_finite l.attribute-iterator;
  same : list_all (are_own l.cluster (shown_in l.view)) (map shown_placed l.attribute-iterator) ≡ list_all (are_own l.cluster (shown_in l.view)) (map shown_placed (placed_of l.view));
}
