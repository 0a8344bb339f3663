use Rattle.std.proofs.Common.{arith}
use Rattle.ntfs_make.proofs.ShapeLemmas.{bounds, bad_cluster-twice}
use Rattle.ntfs_make.proofs.extent.run_of.Goals as goal

pub overflow_sub-result : goal.overflow_sub-result
overflow_sub-result c = let b = bounds _ c.shape-shape.ensures.range in let bad = bad_cluster-twice c.shape-shape.result.clusters in omega arith

pub overflow_sub-result-in-BehindBad : goal.overflow_sub-result-in-BehindBad
overflow_sub-result-in-BehindBad c = let b = bounds _ c.shape-shape.ensures.range in let bad = bad_cluster-twice c.shape-shape.result.clusters in omega arith

pub returns-in-BeforeBad-clause-length : goal.returns-in-BeforeBad-clause-length
returns-in-BeforeBad-clause-length c = let b = bounds _ c.shape-shape.ensures.range in let bad = bad_cluster-twice c.shape-shape.result.clusters in omega arith

pub returns-in-Bad-clause-lcn : goal.returns-in-Bad-clause-lcn
returns-in-Bad-clause-lcn c = let b = bounds _ c.shape-shape.ensures.range in let bad = bad_cluster-twice c.shape-shape.result.clusters in omega arith
