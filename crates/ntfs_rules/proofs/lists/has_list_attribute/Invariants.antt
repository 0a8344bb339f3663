use Rattle.std.proofs.Common.{◌≡◌, map}
use Rattle.std.specs.List.{list_any}
use Rattle.ntfs_rules.proofs.ListLemmas.{shows_list}
use Rattle.ntfs_rules.proofs.lists.has_list_attribute.Given as goal
use Rattle.ntfs_rules.specs.Content.{has_list_attribute}
use Rattle.ntfs_record.specs.Views.{shown_placed}

abbrev pub invariant-attributes : goal.invariant-attributes
invariant-attributes l = record {
  can : (goal.iterator-attributes).can_next l.attribute-iterator;
  finite : (goal.iterator-attributes).is_finite l.attribute-iterator;
  same : list_any shows_list (map shown_placed l.attribute-iterator) ≡ has_list_attribute l.view;
}
