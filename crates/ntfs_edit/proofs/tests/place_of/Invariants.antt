use Rattle.std.proofs.Common.{map}
use Rattle.std.specs.List.{AllByRecursion}
use Rattle.ntfs_record.specs.Parsing.{IsAccepted}
use Rattle.ntfs_record.specs.Views.{shown_placed}
use Rattle.ntfs_edit.specs.Edits.{BeginsAsShown}
use Rattle.ntfs_edit.proofs.tests.place_of.Given as goal

abbrev pub invariant-attributes : goal.invariant-attributes
invariant-attributes l = record {
  can : (goal.iterator-attributes).can_next l.attribute-iterator;
  finite : (goal.iterator-attributes).is_finite l.attribute-iterator;
  accepted : IsAccepted l.bytes;
  begin : AllByRecursion (BeginsAsShown l.bytes) (map shown_placed l.attribute-iterator);
}
