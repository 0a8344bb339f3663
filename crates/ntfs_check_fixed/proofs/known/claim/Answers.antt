use Rattle.std.proofs.Common.{ap, ◌∙◌}
use Rattle.ntfs_bitmap.specs.ClusterSet.{has}
use Rattle.ntfs_bitmap.proofs.LawLemmas.{claimed-has}
use Rattle.ntfs_check_fixed.proofs.known.claim.Goals as goal

pub returns-in-Ok : goal.returns-in-Ok
returns-in-Ok c = record {
  bound = c.in-Ok.ensures.bound;
  members = λ k. ap (λ set. has set k) c.in-Ok.ensures.claimed ∙ claimed-has c.args.first c.args.length c.args.set.now k c.requires.within;
}
