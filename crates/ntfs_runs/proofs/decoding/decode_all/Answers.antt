use Rattle.ntfs_runs.specs.Reading.{reading}
use Rattle.ntfs_runs.proofs.ItemsLemmas.{gives-right, gives-fault}
use Rattle.ntfs_runs.proofs.decoding.decode_all.Goals as goal

pub returns-in-Err : goal.returns-in-Err
returns-in-Err c =
    let items-are = rw (c.in-Some.ensures.steps, c.in-Err.is) at c.pairs.invariant in
    gives-fault c.pairs.runs c.in-Err.fault _ (reading c.args.bytes.now) items-are

pub returns : goal.returns
returns c =
    let items-are = rw c.in-None.ensures.steps.0 at c.pairs.invariant in
    gives-right c.pairs.runs (reading c.args.bytes.now) items-are
