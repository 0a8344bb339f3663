use Rattle.std.proofs.Common.{map}
use Rattle.ntfs_check_clusters.proofs.NameLemmas.{Remaining}
use Rattle.ntfs_check_clusters.proofs.asked.has_names_between.Given as goal
use Rattle.ntfs_record.specs.Views.{shown_placed}

abbrev pub invariant-attributes : goal.invariant-attributes
invariant-attributes l = record {
  can : (goal.iterator-attributes).can_next l.attribute-iterator;
  finite : (goal.iterator-attributes).is_finite l.attribute-iterator;
  rest : Remaining l.block l.view (map shown_placed l.attribute-iterator);
}
