use Rattle.std.proofs.Common.{arith}
use Rattle.std.proofs.lemmas.Grind.{common_steps}
use Rattle.ntfs_make.proofs.ByteLemmas.{front_bytes}
use Rattle.ntfs_make.proofs.field.put_number.Goals as goal

pub returns : goal.returns
returns c =
    let front = front_bytes c.args.size c.args.number _ _ c.requires c.write_u64.ensures in
    grind (arith, common_steps, front)
