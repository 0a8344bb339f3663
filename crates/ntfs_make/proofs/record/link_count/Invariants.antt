use Rattle.std.proofs.Common.{◌≡◌, ◌≤◌, take, map}
use Rattle.std.specs.Prelude.{count_by}
use Rattle.ntfs_make.specs.Table.{attribute_value}
use Rattle.ntfs_make.specs.Records.{is_name}
use Rattle.ntfs_make.proofs.record.link_count.Given as goal

abbrev pub invariant-attributes : goal.invariant-attributes
invariant-attributes l = (l.links ≡ count_by is_name (map attribute_value (take l.attribute-index l.attributes))) × (l.links ≤ l.attribute-index)
