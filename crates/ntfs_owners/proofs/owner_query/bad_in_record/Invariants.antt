use Rattle.std.proofs.Common.{◌≡◌, ◌<◌, ◌||◌, ℕ, map}
use Rattle.ntfs_bitmap.specs.ClusterSet.{bound_of, has}
use Rattle.ntfs_record.specs.Views.{placed_of, shown_placed}
use Rattle.ntfs_owners.specs.Owners.{are_bad_in}
use Rattle.ntfs_owners.proofs.owner_query.bad_in_record.Given as goal

abbrev pub invariant-attributes : goal.invariant-attributes
invariant-attributes l = record {
  can : (goal.iterator-attributes).can_next l.attribute-iterator;
  finite : (goal.iterator-attributes).is_finite l.attribute-iterator;
  bound : bound_of l.set ≡ l.bound;
  added : (k : ℕ) → k < l.bound → (has l.set k || are_bad_in (map shown_placed l.attribute-iterator) k) ≡ are_bad_in (map shown_placed (placed_of l.view)) k;
}
