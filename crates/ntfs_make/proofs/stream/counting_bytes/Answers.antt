use Rattle.std.proofs.Common.{arith}
use Rattle.std.proofs.lemmas.Grind.{common_steps}
use Rattle.ntfs_make.proofs.RangeLemmas.{counting_more}
use Rattle.ntfs_make.proofs.stream.counting_bytes.Goals as goal

pub counts-preserved : goal.counts-preserved
counts-preserved c =
    let more = counting_more c.args.first c.counts.place in
    grind (arith, common_steps, more)
