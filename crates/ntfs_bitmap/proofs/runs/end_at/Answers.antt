use Rattle.std.proofs.Common.{arith}
use Rattle.ntfs_bitmap.specs.Runs.{lengths_of}
use Rattle.ntfs_bitmap.proofs.RunsLemmas.{before-all, past-last}
use Rattle.ntfs_bitmap.proofs.runs.end_at.Goals as goal

pub returns-in_err-first-clause-none : goal.returns-in_err-first-clause-none
returns-in_err-first-clause-none c =
    rw c.from_residual.ensures
    (before-all _ (lengths_of c.args.runs.now) c.requires c.args.cluster c.in_err-first.ensures.none)

pub returns-else-cluster-first-clause-none : goal.returns-else-cluster-first-clause-none
returns-else-cluster-first-clause-none c =
    past-last _ (lengths_of c.args.runs.now) c.requires c.args.cluster c.in_ok-first.first c.in_ok-first.length
    c.in_ok-first.ensures.run (let past = c.if-cluster-first.false in omega (arith, c.in_ok-first.ensures.run.begins))
