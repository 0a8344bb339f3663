use Rattle.std.proofs.Common.{◌≡◌, ◌+◌, ◌<◌, ◌^◌, length, map}
use Rattle.std.specs.Prelude.{All}
use Rattle.ntfs_record.specs.Views.{HasBounds, placed_of, shown_placed}
use Rattle.ntfs_volume.specs.Gathering.{AreParts, shown_parts, shown_parts_of}
use Rattle.ntfs_volume.proofs.gather.take_own.Given as goal

abbrev pub invariant-attributes : goal.invariant-attributes
invariant-attributes l = record {
  can : (goal.iterator-attributes).can_next l.attribute-iterator;
  finite : (goal.iterator-attributes).is_finite l.attribute-iterator;
  bounds : All HasBounds (map shown_placed l.attribute-iterator);
  count : l.parts.count + length l.attribute-iterator < 2 ^ 32;
  are : AreParts l.clusters l.parts;
  same : shown_parts_of l.clusters l.goal.number l.goal.kind l.goal.name.now (map shown_placed l.attribute-iterator) (shown_parts l.parts)
      ≡ shown_parts_of l.clusters l.goal.number l.goal.kind l.goal.name.now (map shown_placed (placed_of l.base)) (shown_parts l.initial.parts);
}
