use Rattle.std.proofs.Common.{◌≡◌, ◌++◌, map}
use Rattle.ntfs_check_files.specs.Members.{shown_but, shown_member, told_member}
use Rattle.ntfs_check_files.proofs.members.keep_attributes.Given as goal
use Rattle.ntfs_record.specs.Views.{placed_of, shown_placed}

abbrev pub invariant-attributes : goal.invariant-attributes
invariant-attributes l = record {
  can : (goal.iterator-attributes).can_next l.attribute-iterator;
  finite : (goal.iterator-attributes).is_finite l.attribute-iterator;
  same : map told_member l.kept.items ++ map (shown_member l.number l.view.head.sequence) (shown_but l.skipping (map shown_placed l.attribute-iterator))
      ≡ map told_member l.initial.kept.items ++ map (shown_member l.number l.view.head.sequence) (shown_but l.skips (map shown_placed (placed_of l.view)));
}
