use Rattle.std.proofs.Common.{◌≡◌, ◌++◌, take, map}
use Rattle.ntfs_make.specs.Table.{row_value}
use Rattle.ntfs_make.specs.Records.{records_bytes}
use Rattle.ntfs_make.proofs.record.put_records.Given as goal

abbrev pub invariant-rows : goal.invariant-rows
invariant-rows l =
    l.out.items ≡ l.fn.out.items ++ records_bytes l.layout (map row_value (take l.row-index l.some))
