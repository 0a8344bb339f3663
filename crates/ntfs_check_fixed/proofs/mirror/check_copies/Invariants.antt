use Rattle.std.proofs.Common.{◌≡◌, drop, map}
use Rattle.std.specs.Prelude.{vec_len}
use Rattle.ntfs_base.specs.Checks.{first_wrong}
use Rattle.ntfs_check_fixed.specs.Copies.{copy_check}
use Rattle.ntfs_check_fixed.proofs.mirror.check_copies.Given as goal

abbrev pub invariant-records : goal.invariant-records
invariant-records l = record {
  block : vec_len l.block ≡ l.size;
  copy : vec_len l.copy ≡ l.size;
  left : first_wrong (map (copy_check l.size l.count l.records l.mirror) l.numbers)
      ≡ first_wrong (map (copy_check l.size l.count l.records l.mirror) (drop l.number-index l.numbers));
}
