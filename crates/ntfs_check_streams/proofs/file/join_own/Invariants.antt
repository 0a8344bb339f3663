use Rattle.std.proofs.Common.{◌≡◌, map}
use Rattle.ntfs_check_streams.proofs.file.join_own.Given as goal
use Rattle.ntfs_check_streams.specs.Join.{join_shown}
use Rattle.ntfs_check_streams.specs.declared.join.Joined.TheVariants as joined
use Rattle.ntfs_record.specs.Views.{placed_of, shown_placed}

abbrev pub invariant-attributes : goal.invariant-attributes
invariant-attributes l = record {
  can : (goal.iterator-attributes).can_next l.attribute-iterator;
  finite : (goal.iterator-attributes).is_finite l.attribute-iterator;
  same : join_shown l.kind l.name l.all (map shown_placed l.attribute-iterator) ≡ join_shown l.kind l.name joined.Nothing (map shown_placed (placed_of l.view));
}
