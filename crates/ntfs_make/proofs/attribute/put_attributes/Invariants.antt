use Rattle.std.proofs.Common.{◌≡◌, ◌++◌, take, map}
use Rattle.ntfs_make.specs.Table.{attribute_value}
use Rattle.ntfs_make.specs.Attributes.{attributes_bytes}
use Rattle.ntfs_make.proofs.attribute.put_attributes.Given as goal

abbrev pub invariant-attributes : goal.invariant-attributes
invariant-attributes l = (l.instance ≡ l.attribute-index) × (l.out.items ≡ l.fn.out.items ++ attributes_bytes l.layout 0 (map attribute_value (take l.attribute-index l.attributes)))
