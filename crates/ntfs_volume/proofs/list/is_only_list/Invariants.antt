use Rattle.std.proofs.Common.{◌≡◌, ◌+◌, ◌<◌, ◌^◌, length, map}
use Rattle.std.specs.Prelude.{filter}
use Rattle.ntfs_record.specs.FileRecord.{attributes_of}
use Rattle.ntfs_record.specs.Views.{shown_placed}
use Rattle.ntfs_volume.specs.Views.{is_shown_list, told, unplaced}
use Rattle.ntfs_volume.proofs.list.is_only_list.Given as goal

abbrev pub invariant-attributes : goal.invariant-attributes
invariant-attributes l = record {
  can : (goal.iterator-attributes).can_next l.attribute-iterator;
  finite : (goal.iterator-attributes).is_finite l.attribute-iterator;
  few : l.count + length (map shown_placed l.attribute-iterator) < 2 ^ 32;
  same : l.count + length (filter (is_shown_list l.name) (map unplaced (map shown_placed l.attribute-iterator))) ≡ length (filter (is_shown_list l.name) (map told (attributes_of l.view)));
}
