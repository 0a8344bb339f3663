use Rattle.std.proofs.Common.{◌+◌, drop, None, get_or}
use Rattle.std.proofs.lemmas.List.{drop_all}
use Rattle.ntfs_runs.specs.declared.run.Run.{Run}
use Rattle.ntfs_runs.specs.Clusters.{vcns}
use Rattle.ntfs_runs.specs.Canon.{canon}
use Rattle.ntfs_runs.proofs.ClustersLemmas.{next-run}
use Rattle.ntfs_runs.proofs.WriterLemmas.{goes-on-first, goes-on-needs, goes-on-next, goes-on-full, goes-on-ends}
use Rattle.ntfs_runs.proofs.encoding.encode_all.Goals as goal

abbrev none : Run
none = record { length = 0; lcn = None }

pub runs-init : goal.runs-init
runs-init c = rw c.new-writer.ensures (goes-on-first c.args.into.now c.args.runs.now c.requires)

pub add-requires-clause-sound : goal.add-requires-clause-sound
add-requires-clause-sound c = c.runs.invariant.sound

pub add-requires-clause-small : goal.add-requires-clause-small
add-requires-clause-small c =
    let runs = c.args.runs.now in
    let i = c.runs.run-index in
    (goes-on-needs c.runs.writer c.args.into.now c.runs.into (canon (vcns runs)) (drop i runs) (get_or runs i none) (drop (i + 1) runs) c.runs.invariant (next-run runs i none c.runs-test.true)).0

pub add-requires-clause-together : goal.add-requires-clause-together
add-requires-clause-together c =
    let runs = c.args.runs.now in
    let i = c.runs.run-index in
    (goes-on-needs c.runs.writer c.args.into.now c.runs.into (canon (vcns runs)) (drop i runs) (get_or runs i none) (drop (i + 1) runs) c.runs.invariant (next-run runs i none c.runs-test.true)).1

pub runs-preserved : goal.runs-preserved
runs-preserved c =
    let runs = c.args.runs.now in
    let i = c.runs.run-index in
    goes-on-next c.runs.writer c.add.new.self c.args.into.now c.runs.into c.add.new.into (canon (vcns runs)) (drop i runs) (get_or runs i none) (drop (i + 1) runs) c.runs.invariant (next-run runs i none c.runs-test.true) c.in_ok-add.ensures.added

pub returns-in_err-add-clause-fits : goal.returns-in_err-add-clause-fits
returns-in_err-add-clause-fits c =
    let runs = c.args.runs.now in
    let i = c.runs.run-index in
    rw c.from_residual.ensures
    (goes-on-full c.runs.writer c.args.into.now c.runs.into (canon (vcns runs)) (drop i runs) (get_or runs i none) (drop (i + 1) runs) c.runs.invariant (next-run runs i none c.runs-test.true) c.runs.auto.into c.in_err-add.ensures.full)

pub returns-clause-fits : goal.returns-clause-fits
returns-clause-fits c =
    let runs = c.args.runs.now in
    let i = c.runs.run-index in
    (goes-on-ends c.runs.writer c.args.into.now c.runs.into c.finish.new.into (canon (vcns runs)) (drop i runs) c.finish.result c.runs.invariant (drop_all i runs c.runs-test.false) c.runs.auto.into c.finish.ensures.fits c.finish.ensures.written).0

pub returns-clause-written : goal.returns-clause-written
returns-clause-written c =
    let runs = c.args.runs.now in
    let i = c.runs.run-index in
    (goes-on-ends c.runs.writer c.args.into.now c.runs.into c.finish.new.into (canon (vcns runs)) (drop i runs) c.finish.result c.runs.invariant (drop_all i runs c.runs-test.false) c.runs.auto.into c.finish.ensures.fits c.finish.ensures.written).1
