use Rattle.std.proofs.Common.{◌∙◌, ◌+◌, ◌-◌, ◌++◌, Some, [], true, false}
use Rattle.ntfs_rules.specs.FixedRecords.{begin_with}
use Rattle.ntfs_runs.specs.Clusters.{row}
use Rattle.ntfs_volume.specs.StreamBytes.{clusters_in}
use Rattle.ntfs_check_fixed.proofs.PlaceLemmas.{alone-first, answered-by, row-end, row-step}
use Rattle.ntfs_check_fixed.proofs.cells.Cells.begin_with_row.Goals as goal

pub returns-then-not-steps_to-clause-more : goal.returns-then-not-steps_to-clause-more
returns-then-not-steps_to-clause-more c = λ rest.
    let next = clusters_in (row (c.args.count - (c.clusters.place + 1)) (Some (c.args.first + (c.clusters.place + 1)))) ++ rest in
    c.clusters.invariant rest ∙ row-step c.args.count c.clusters.place c.args.first rest c.clusters.self c.clusters-test.true
    ∙ answered-by c.steps_to.result false (begin_with next c.steps_to.new.self) _ (c.steps_to.ensures next) c.if-not-steps_to.true

pub returns-then-not-steps_to-clause-alone : goal.returns-then-not-steps_to-clause-alone
returns-then-not-steps_to-clause-alone c =
    let next = clusters_in (row (c.args.count - (c.clusters.place + 1)) (Some (c.args.first + (c.clusters.place + 1)))) ++ [] in
    alone-first (clusters_in (row c.args.count (Some c.args.first))) c.args.self.now c.steps_to.new.self false
    (c.clusters.invariant [] ∙ row-step c.args.count c.clusters.place c.args.first [] c.clusters.self c.clusters-test.true
    ∙ answered-by c.steps_to.result false (begin_with next c.steps_to.new.self) _ (c.steps_to.ensures next) c.if-not-steps_to.true)

pub clusters-preserved : goal.clusters-preserved
clusters-preserved c = λ rest.
    let next = clusters_in (row (c.args.count - (c.clusters.place + 1)) (Some (c.args.first + (c.clusters.place + 1)))) ++ rest in
    c.clusters.invariant rest ∙ row-step c.args.count c.clusters.place c.args.first rest c.clusters.self c.clusters-test.true
    ∙ answered-by c.steps_to.result true (begin_with next c.steps_to.new.self) _ (c.steps_to.ensures next) c.if-not-steps_to.false

pub returns-clause-more : goal.returns-clause-more
returns-clause-more c = λ rest. c.clusters.invariant rest ∙ row-end c.args.count c.clusters.place c.args.first rest c.clusters.self c.clusters-test.false

pub returns-clause-alone : goal.returns-clause-alone
returns-clause-alone c =
    alone-first (clusters_in (row c.args.count (Some c.args.first))) c.args.self.now c.clusters.self true
    (c.clusters.invariant [] ∙ row-end c.args.count c.clusters.place c.args.first [] c.clusters.self c.clusters-test.false)
