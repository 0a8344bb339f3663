use Rattle.std.proofs.Common.{◌≡◌, ◌++◌, map}
use Rattle.std.specs.Prelude.{All}
use Rattle.ntfs_record.specs.Views.{HasBounds, placed_of, shown_placed}
use Rattle.ntfs_owners.specs.Held.{all_shown_held, held_of, wants_runs}
use Rattle.ntfs_owners.proofs.held.add_attributes.Given as goal

abbrev pub invariant-attributes : goal.invariant-attributes
invariant-attributes l = record {
  can : (goal.iterator-attributes).can_next l.attribute-iterator;
  finite : (goal.iterator-attributes).is_finite l.attribute-iterator;
  bounds : All HasBounds (map shown_placed l.attribute-iterator);
  same : map held_of l.held.items ++ all_shown_held (wants_runs l.wanted) l.number (map shown_placed l.attribute-iterator)
      ≡ map held_of l.initial.held.items ++ all_shown_held (wants_runs l.wanted) l.number (map shown_placed (placed_of l.view));
}
