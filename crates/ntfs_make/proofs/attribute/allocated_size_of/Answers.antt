use Rattle.std.proofs.Common.{◌+◌, arith}
use Rattle.ntfs_make.proofs.ShapeLemmas.{bounds, times-fits}
use Rattle.ntfs_make.proofs.attribute.allocated_size_of.Goals as goal

pub overflow_mul-result : goal.overflow_mul-result
overflow_mul-result c =
    let b = bounds _ c.shape.ensures.range in
    let fits = times-fits (c.vcn_count.result + c.run_of-then-run_of-eq0.result.length) c.shape.result.cluster (omega arith) b.most in
    omega arith
