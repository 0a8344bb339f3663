use Rattle.std.proofs.Common.{false}
use Rattle.ntfs_bitmap.specs.Runs.{is_covered, lengths_of}
use Rattle.ntfs_bitmap.proofs.SetLemmas.{bound-set_where, set_where-same}
use Rattle.ntfs_bitmap.proofs.RunsLemmas.{empty-covers_none}
use Rattle.ntfs_bitmap.proofs.cluster_set.ClusterSet.empty.Goals as goal

pub returns-clause-bound : goal.returns-clause-bound
returns-clause-bound c = bound-set_where c.args.bound (is_covered (lengths_of c.new.result))

pub returns-clause-empty : goal.returns-clause-empty
returns-clause-empty c =
    set_where-same c.args.bound (is_covered (lengths_of c.new.result)) (λ _. false)
    (λ cluster below. empty-covers_none c.new.result c.new.ensures.empty cluster)
