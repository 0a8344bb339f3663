use Rattle.std.proofs.Common.{◌≡◌, map}
use Rattle.std.specs.Prelude.{All, find}
use Rattle.ntfs_record.specs.FileRecord.{attributes_of}
use Rattle.ntfs_record.specs.Views.{HasBounds, shown_placed}
use Rattle.ntfs_volume.specs.Views.{is_wanted, told, unplaced}
use Rattle.ntfs_volume.proofs.wanted.first_of.Given as goal

abbrev pub invariant-attributes : goal.invariant-attributes
invariant-attributes l = record {
  can : (goal.iterator-attributes).can_next l.attribute-iterator;
  finite : (goal.iterator-attributes).is_finite l.attribute-iterator;
  bounds : All HasBounds (map shown_placed l.attribute-iterator);
  same : find (is_wanted l.wanted) (map unplaced (map shown_placed l.attribute-iterator)) ≡ find (is_wanted l.wanted) (map told (attributes_of l.view));
}
