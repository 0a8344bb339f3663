use Rattle.std.proofs.Common.{arith}
use Rattle.ntfs_make.proofs.ShapeLemmas.{bounds, times-fits}
use Rattle.ntfs_make.proofs.extent.size_bytes.Goals as goal

pub overflow_mul-result : goal.overflow_mul-result
overflow_mul-result c =
    let b = bounds _ c.shape-shape.ensures.range in
    let fits = times-fits c.from.result c.shape-shape.result.cluster (omega arith) b.most in
    omega arith

pub overflow_add-result : goal.overflow_add-result
overflow_add-result c = let b = bounds _ c.shape-shape.ensures.range in omega arith

pub overflow_mul-result-in-InArea : goal.overflow_mul-result-in-InArea
overflow_mul-result-in-InArea c =
    let b = bounds _ c.shape-shape.ensures.range in
    let fits = times-fits c.area.result.length c.shape-shape.result.cluster (omega arith) b.most in
    omega arith

pub overflow_mul-result-in-Volume : goal.overflow_mul-result-in-Volume
overflow_mul-result-in-Volume c = let b = bounds _ c.shape-shape.ensures.range in let fits = times-fits c.shape-shape.result.clusters c.shape-shape.result.cluster (omega arith) b.most in omega arith
