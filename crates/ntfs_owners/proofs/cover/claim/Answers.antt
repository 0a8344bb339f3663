use Rattle.std.proofs.Common.{ap, ◌∙◌}
use Rattle.ntfs_bitmap.specs.ClusterSet.{has}
use Rattle.ntfs_bitmap.proofs.SetLemmas.{has-claimed}
use Rattle.ntfs_owners.proofs.cover.claim.Goals as goal

pub returns-in-Ok-clause-added : goal.returns-in-Ok-clause-added
returns-in-Ok-clause-added c = λ k below.
    ap (λ set. has set k) c.in-Ok.ensures.claimed ∙ has-claimed c.args.first c.args.length c.args.set.now k below
