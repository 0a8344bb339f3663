use Rattle.std.proofs.Common.{arith}
use Rattle.std.proofs.lemmas.Grind.{common_steps}
use Rattle.ntfs_make.proofs.ShapeLemmas.{bounds, bitmap_size-le}
use Rattle.ntfs_make.proofs.RangeLemmas.{bitmap_more}
use Rattle.ntfs_make.proofs.stream.bitmap_bytes.Goals as goal

pub byte_of-requires : goal.byte_of-requires
byte_of-requires c = let b = bounds _ c.shape.ensures.range in let most = bitmap_size-le c.shape.result.clusters in omega arith

pub bytes-preserved : goal.bytes-preserved
bytes-preserved c =
    let more = bitmap_more c.args.layout.now c.bytes.place in
    grind (arith, common_steps, more)
