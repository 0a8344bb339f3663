use Rattle.std.proofs.Common.{◌≡◌, ◌≤◌, ◌-◌}
use Rattle.ntfs_record.specs.Parsing as spec
use Rattle.ntfs_record.proofs.soundness.first_unsound.Given as goal

abbrev pub invariant-attributes : goal.invariant-attributes
invariant-attributes l = record {
  within : l.place ≤ l.used;
  same : spec.unsound_of l.bytes l.place ≡ spec.unsound_of l.bytes l.first;
}

abbrev pub decreases-attributes : goal.decreases-attributes
decreases-attributes l = l.used - l.place
