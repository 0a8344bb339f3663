use Rattle.std.proofs.Common.{ℕ, ◌+◌, ◌≤◌, ◌^◌, Some, None, sym, ap, ◌∙◌, arith, get_or, subst}
use Rattle.std.specs.Prelude.{Option, IfSome, slice_get}
use Rattle.ntfs_runs.specs.declared.run.Run.{Run}
use Rattle.ntfs_runs.specs.Clusters.{behind, vcns}
use Rattle.ntfs_runs.proofs.ClustersLemmas.{looked-up, looked-past, looked-all, within-at}
use Rattle.ntfs_runs.proofs.run_list.cell_of.Goals as goal

abbrev none : Run
none = record { length = 0; lcn = None }

pub overflow_add-result : goal.overflow_add-result
overflow_add-result c =
    let run : Run = get_or c.args.runs.now c.runs.run-index none in
    let within = within-at c.args.runs.now c.runs.run-index none c.runs-test.true c.requires in
    let here = subst (λ (o : Option ℕ). IfSome o (λ lcn. lcn + run.length ≤ 2 ^ 64)) c.in-Some.is within in
    let left = c.if-left-run.true in
    omega arith

pub returns-in-None : goal.returns-in-None
returns-in-None c =
    ap (λ (o : Option ℕ). Some (behind o c.runs.left)) (sym c.in-None.is)
    ∙ looked-up c.args.runs.now c.runs.run-index c.runs.left none (slice_get (vcns c.args.runs.now) c.args.vcn) c.runs-test.true c.if-left-run.true c.runs.invariant

pub returns-in-Some : goal.returns-in-Some
returns-in-Some c =
    ap (λ (o : Option ℕ). Some (behind o c.runs.left)) (sym c.in-Some.is)
    ∙ looked-up c.args.runs.now c.runs.run-index c.runs.left none (slice_get (vcns c.args.runs.now) c.args.vcn) c.runs-test.true c.if-left-run.true c.runs.invariant

pub runs-preserved : goal.runs-preserved
runs-preserved c = looked-past c.args.runs.now c.runs.run-index c.runs.left none (slice_get (vcns c.args.runs.now) c.args.vcn) c.runs-test.true c.if-left-run.false c.runs.invariant

pub returns : goal.returns
returns c = looked-all c.args.runs.now c.runs.run-index c.runs.left (slice_get (vcns c.args.runs.now) c.args.vcn) c.runs-test.false c.runs.invariant
