use Rattle.ntfs_runs.proofs.WriterLemmas.{ends-first, ends-put, ends-full}
use Rattle.ntfs_runs.proofs.writer.Writer.finish.Goals as goal

pub returns-in_err-at-in-Some-clause-fits : goal.returns-in_err-at-in-Some-clause-fits
returns-in_err-at-in-Some-clause-fits c =
    rw c.from_residual.ensures (ends-full c.args.self c.args.into.now c.args.into.now c.in-Some.run' c.requires c.in-Some.is c.in_err-at-in-Some.ensures.place).fits

pub returns-in-None-clause-fits : goal.returns-in-None-clause-fits
returns-in-None-clause-fits c =
    (ends-first c.args.self c.args.into.now c.put_closing.new.into c.put_closing.result c.requires c.in-None.is c.put_closing.ensures.place c.put_closing.ensures.written).fits

pub returns-in-None-clause-written : goal.returns-in-None-clause-written
returns-in-None-clause-written c =
    (ends-first c.args.self c.args.into.now c.put_closing.new.into c.put_closing.result c.requires c.in-None.is c.put_closing.ensures.place c.put_closing.ensures.written).written

pub returns-in_ok-at-in-Some-clause-fits : goal.returns-in_ok-at-in-Some-clause-fits
returns-in_ok-at-in-Some-clause-fits c =
    let place = c.in_ok-at-in-Some.ensures.place in
    (ends-put c.args.self c.args.into.now c.put_run.new.into c.put_closing-in-Some.new.into c.in-Some.run' c.in_ok-at-in-Some.at c.put_closing-in-Some.result c.requires c.in-Some.is
    place.0 place.1 c.in_ok-at-in-Some.ensures.written c.put_closing-in-Some.ensures.place c.put_closing-in-Some.ensures.written).fits

pub returns-in_ok-at-in-Some-clause-written : goal.returns-in_ok-at-in-Some-clause-written
returns-in_ok-at-in-Some-clause-written c =
    let place = c.in_ok-at-in-Some.ensures.place in
    (ends-put c.args.self c.args.into.now c.put_run.new.into c.put_closing-in-Some.new.into c.in-Some.run' c.in_ok-at-in-Some.at c.put_closing-in-Some.result c.requires c.in-Some.is
    place.0 place.1 c.in_ok-at-in-Some.ensures.written c.put_closing-in-Some.ensures.place c.put_closing-in-Some.ensures.written).written
