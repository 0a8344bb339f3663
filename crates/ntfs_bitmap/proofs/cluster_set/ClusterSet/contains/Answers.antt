use Rattle.std.proofs.Common.{sym, ◌∙◌, arith}
use Rattle.std.proofs.lemmas.Bool.{le-ltb}
use Rattle.ntfs_bitmap.proofs.SetLemmas.{has-past}
use Rattle.ntfs_bitmap.proofs.cluster_set.ClusterSet.contains.Goals as goal

pub returns-else-cluster-bound-clause-member : goal.returns-else-cluster-bound-clause-member
returns-else-cluster-bound-clause-member c =
    let past = c.if-cluster-bound.false in
    le-ltb _ _ (omega arith) ∙ sym (has-past c.args.self.now c.args.cluster (omega (arith, c.bound.ensures)))
