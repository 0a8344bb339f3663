use Rattle.std.proofs.Common.{◌≡◌, map}
use Rattle.std.specs.Prelude.{find}
use Rattle.ntfs_attrlist.specs.Views.{shown_entry}
use Rattle.ntfs_check_streams.proofs.named.meant_span.Given as goal
use Rattle.ntfs_record.specs.Views.{placed_of, shown_placed}
use Rattle.ntfs_volume.specs.Gathering.{is_meant}

abbrev pub invariant-attributes : goal.invariant-attributes
invariant-attributes l = record {
  can : (goal.iterator-attributes).can_next l.attribute-iterator;
  finite : (goal.iterator-attributes).is_finite l.attribute-iterator;
  same : find (is_meant (shown_entry l.entry)) (map shown_placed l.attribute-iterator) ≡ find (is_meant (shown_entry l.entry)) (map shown_placed (placed_of l.holder));
}
