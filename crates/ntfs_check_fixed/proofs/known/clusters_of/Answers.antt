use Rattle.ntfs_check_fixed.proofs.FactLemmas.{clusters-count, holes-count}
use Rattle.ntfs_check_fixed.proofs.known.clusters_of.Goals as goal

pub returns-in-None : goal.returns-in-None
returns-in-None c = rw c.in-None.is (holes-count c.args.run.now.length)

pub returns-in-Some : goal.returns-in-Some
returns-in-Some c = rw c.in-Some.is (clusters-count c.args.run.now.length _)
