use Rattle.ntfs_clone.proofs.restoring.restore.Goals as goal

pub returns-in-Some-clause-restored : goal.returns-in-Some-clause-restored
returns-in-Some-clause-restored g c = rw c.in-Some.is c.restore_to.ensures.restored

pub returns-in-Some-clause-size : goal.returns-in-Some-clause-size
returns-in-Some-clause-size g c = rw c.in-Some.is c.restore_to.ensures.size

pub returns-in-Some-clause-sizes : goal.returns-in-Some-clause-sizes
returns-in-Some-clause-sizes g c = rw c.in-Some.is c.restore_to.ensures.sizes

pub returns-in-Some-clause-same : goal.returns-in-Some-clause-same
returns-in-Some-clause-same g c = rw c.in-Some.is c.restore_to.ensures.same

pub returns-in-Some-clause-restores : goal.returns-in-Some-clause-restores
returns-in-Some-clause-restores g c = rw c.in-Some.is c.restore_to.ensures.restores

pub returns-in-Some-clause-only_reads : goal.returns-in-Some-clause-only_reads
returns-in-Some-clause-only_reads g c none = absurd cc

pub returns-in-Some-clause-takes : goal.returns-in-Some-clause-takes
returns-in-Some-clause-takes g c none = absurd cc
