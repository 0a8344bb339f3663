use Rattle.std.proofs.Common.{arith, ◌≤◌, ◌/◌}
use Rattle.ntfs_make.proofs.ShapeLemmas.{bounds, times-fits}
use Rattle.ntfs_make.proofs.shape.sectors.Goals as goal
use Rattle.ntfs_make.proofs.shape.sectors.Goals.{then-shape-eq1, else-shape-eq1}

pub overflow_sub-odd : goal.overflow_sub-odd
overflow_sub-odd c = let b = bounds _ c.requires in omega arith

pub overflow_mul-result : goal.overflow_mul-result
overflow_mul-result c =
    let b = bounds _ c.requires in
    let fits = times-fits c.args.shape.now.clusters (c.args.shape.now.cluster / 512) (omega arith) (omega arith) in
    omega arith

pub overflow_add-result : goal.overflow_add-result
overflow_add-result c =
    let b = bounds _ c.requires in
    let fits = times-fits c.args.shape.now.clusters (c.args.shape.now.cluster / 512) (omega arith) (omega arith) in
    let odd : c.if-shape-eq1.odd ≤ c.args.shape.now.cluster = elim c.if-shape-eq1.branch [
      | then-shape-eq1 w ↦ omega arith
      | else-shape-eq1 w ↦ omega arith
    ] in
    omega arith
