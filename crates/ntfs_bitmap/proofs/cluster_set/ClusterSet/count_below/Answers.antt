use Rattle.std.proofs.Common.{sym, ◌∙◌}
use Rattle.ntfs_bitmap.specs.ClusterSet.{count_below, has}
use Rattle.ntfs_bitmap.specs.Runs.{is_covered, lengths_of}
use Rattle.ntfs_bitmap.proofs.ClaimLemmas.{has-covered}
use Rattle.ntfs_bitmap.proofs.CountLemmas.{count-same}
use Rattle.ntfs_bitmap.proofs.cluster_set.ClusterSet.count_below.Goals as goal

pub count_below-requires : goal.count_below-requires
count_below-requires c = (c.self.inside.bound, c.self.invariant)

pub returns : goal.returns
unfolding count_below
returns c =
    let runs = lengths_of c.self.inside.runs in
    c.count_below.ensures
    ∙ sym (count-same (has c.args.self.now) (is_covered runs) c.args.cluster
    (has-covered c.self.inside.bound runs c.args.self.now c.self.view_is c.self.invariant))
