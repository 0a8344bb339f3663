use Rattle.std.proofs.Common.{◌≡◌, ◌≤◌, ◌-◌, ℕ, length, List}
use Rattle.ntfs_check_files.specs.Extending.{HasTaken}
use Rattle.ntfs_check_files.proofs.collect.take_records.Given as goal
use Rattle.ntfs_survey.specs.Surveying.{record_at}
use Rattle.ntfs_volume.specs.Opened.{Opened}
use Rattle.ntfs_volume.specs.Scan.{HoldRecords}

abbrev pub invariant-records : goal.invariant-records
invariant-records l = record {
  long : length l.block ≡ length l.initial.block;
  most : l.index ≤ l.count;
  taken : (o : Opened) (f : ℕ → List ℕ) → length l.initial.block ≡ o.geometry.record_size → HoldRecords o.geometry o.map f l.number l.count l.raws
      → HasTaken (record_at o f) l.number l.index l.initial.extensions l.extensions;
}

abbrev pub decreases-records : goal.decreases-records
decreases-records l = l.count - l.index
