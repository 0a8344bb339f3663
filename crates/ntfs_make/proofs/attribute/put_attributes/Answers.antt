use Rattle.std.proofs.Common.{arith}
use Rattle.std.proofs.lemmas.Grind.{common_steps}
use Rattle.ntfs_make.proofs.AttributeLemmas.{attributes_bytes-more}
use Rattle.ntfs_make.proofs.attribute.put_attributes.Goals as goal

pub attributes-preserved : goal.attributes-preserved
attributes-preserved c = (omega arith, grind (arith, common_steps, attributes_bytes-more))
