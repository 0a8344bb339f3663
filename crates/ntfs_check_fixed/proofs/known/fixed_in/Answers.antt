use Rattle.ntfs_check_fixed.proofs.FactLemmas.{fixed-set}
use Rattle.ntfs_check_fixed.proofs.known.fixed_in.Goals as goal
use Rattle.ntfs_runs.specs.Clusters.{vcns}

pub returns : goal.returns
returns c = fixed-set c.args.clusters c.in_ok-set.set _ _ (vcns c.args.bitmap.now) (vcns c.args.bad.now) c.in_ok-set.ensures.empty c.in_ok-add_runs.ensures c.in_ok-add_runs-2.ensures
