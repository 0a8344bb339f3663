use Rattle.ntfs_runs.proofs.ItemsLemmas.{items-spelled, items-wrong}
use Rattle.ntfs_runs.proofs.reader.pairs.Goals as goal

pub returns-clause-spelled : goal.returns-clause-spelled
returns-clause-spelled c runs = rw c.new.ensures (items-spelled c.args.bytes.now runs)

pub returns-clause-fault : goal.returns-clause-fault
returns-clause-fault c runs place = rw c.new.ensures (items-wrong c.args.bytes.now runs place)
