use Rattle.std.proofs.Common.{◌∙◌, ap, sym, refl, subst, arith, List}
use Rattle.ntfs_check_fixed.proofs.PlaceLemmas.{empty-front, front-cell, no-cells}
use Rattle.ntfs_check_fixed.proofs.cells.Cells.step.Goals as goal
use Rattle.ntfs_runs.specs.Clusters.{AreWithin, vcns}
use Rattle.ntfs_runs.specs.declared.run.Run.{Run}

pub runs-init : goal.runs-init
runs-init c = record { cells = refl; within = c.self.invariant }

pub returns-in-None : goal.returns-in-None
returns-in-None c =
    sym c.self.view_is ∙ c.runs.invariant.cells ∙ empty-front c.runs.self-inside.run c.runs.self-inside.rest.now c.runs-test.true ∙ no-cells c.runs.self-inside.rest.now c.in-None.ensures.cases

pub runs-smaller : goal.runs-smaller
runs-smaller c = omega (arith, c.in-Some.ensures.cases.1)

pub runs-preserved : goal.runs-preserved
runs-preserved c = record {
  cells = c.runs.invariant.cells ∙ empty-front c.runs.self-inside.run c.runs.self-inside.rest.now c.runs-test.true ∙ ap vcns c.in-Some.ensures.cases.0;
  within = subst (λ (runs : List Run). AreWithin runs) c.in-Some.ensures.cases.0 c.runs.invariant.within.1;
}

pub shortened-self-inside-requires-clause-within : goal.shortened-self-inside-requires-clause-within
shortened-self-inside-requires-clause-within c = (c.runs.invariant.within.0, tt)

pub invariant_of-self-2 : goal.invariant_of-self-2
invariant_of-self-2 c = (c.shortened-self-inside.ensures.within.0, c.runs.invariant.within.1)

pub returns : goal.returns
returns c =
    sym c.self.view_is ∙ c.runs.invariant.cells ∙ front-cell c.runs.self-inside.run c.shortened-self-inside.result c.runs.self-inside.rest.now c.shortened-self-inside.ensures.cells
