use Rattle.std.proofs.Common.{◌≡◌, ◌++◌, take}
use Rattle.std.specs.Prelude.{flat_map}
use Rattle.ntfs_make.specs.Fields.{field_bytes}
use Rattle.ntfs_make.proofs.field.put_fields.Given as goal

abbrev pub invariant-fields : goal.invariant-fields
invariant-fields l = l.out.items ≡ l.fn.out.items ++ flat_map field_bytes (take l.field-index l.fields)
