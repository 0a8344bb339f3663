use Rattle.std.proofs.Common.{◌∙◌, ◌+◌, ◌≤◌, ◌^◌, ap, sym, subst, drop, get_or, ℕ, Option, true, false}
use Rattle.std.specs.Prelude.{IfSome}
use Rattle.ntfs_rules.specs.FixedRecords.{begin_with}
use Rattle.ntfs_runs.proofs.CellsLemmas.{no_run}
use Rattle.ntfs_runs.proofs.ClustersLemmas.{within-at}
use Rattle.ntfs_runs.specs.Clusters.{vcns}
use Rattle.ntfs_volume.specs.StreamBytes.{clusters_in}
use Rattle.ntfs_check_fixed.proofs.PlaceLemmas.{all-clusters, answered-by, hole-clusters, nothing-first, some-clusters}
use Rattle.ntfs_check_fixed.proofs.cells.Cells.begin_with_runs.Goals as goal
use Rattle.ntfs_check_fixed.proofs.cells.Cells.begin_with_runs.Goals.{in-None, in-Some+else-not-begin_with_row}

pub begin_with_row-requires : goal.begin_with_row-requires
begin_with_row-requires c =
    let within = within-at c.args.runs.now c.given.run-index no_run c.given-test.true c.requires in
    subst (λ (o : Option ℕ). IfSome o (λ lcn. lcn + (get_or c.args.runs.now c.given.run-index no_run).length ≤ 2 ^ 64)) c.in-Some.is within

pub returns-then-not-begin_with_row : goal.returns-then-not-begin_with_row
returns-then-not-begin_with_row c =
    let rest = clusters_in (vcns (drop (c.given.run-index + 1) c.args.runs.now)) in
    sym (c.given.invariant ∙ ap (λ ks. begin_with ks c.given.self) (some-clusters c.args.runs.now c.given.run-index c.in-Some.first c.given-test.true c.in-Some.is)
    ∙ answered-by c.begin_with_row.result false (begin_with rest c.begin_with_row.new.self) _ (c.begin_with_row.ensures.more rest) c.if-not-begin_with_row.true)

pub given-preserved : goal.given-preserved
given-preserved c =
    let rest = clusters_in (vcns (drop (c.given.run-index + 1) c.args.runs.now)) in
    elim c.match-run.branch [
      | in-Some+else-not-begin_with_row w ↦
          c.given.invariant ∙ ap (λ ks. begin_with ks c.given.self) (some-clusters c.args.runs.now c.given.run-index w.in-Some.first c.given-test.true w.in-Some.is)
          ∙ answered-by w.begin_with_row.result true (begin_with rest w.begin_with_row.new.self) _ (w.begin_with_row.ensures.more rest) w.if-not-begin_with_row.false
          ∙ ap (begin_with rest) (sym w.self-is)
      | in-None w ↦
          c.given.invariant ∙ ap (λ ks. begin_with ks c.given.self) (hole-clusters c.args.runs.now c.given.run-index c.given-test.true w.in-None.is)
          ∙ ap (begin_with rest) (sym w.self-is)
    ]

pub returns : goal.returns
returns c = sym (c.given.invariant ∙ ap (λ ks. begin_with ks c.given.self) (all-clusters c.args.runs.now c.given.run-index c.given-test.false) ∙ nothing-first c.given.self)
