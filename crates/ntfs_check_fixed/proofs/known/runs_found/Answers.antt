use Rattle.std.proofs.Common.{◌∙◌, ap, sym, subst, Option}
use Rattle.std.specs.Prelude.{IfSome, ℕ}
use Rattle.ntfs_check_fixed.proofs.RowLemmas.{no-runs, no-runs-below}
use Rattle.ntfs_check_fixed.proofs.known.runs_found.Goals as goal
use Rattle.ntfs_check_fixed.specs.Facts.{gathered_cells}
use Rattle.ntfs_check_fixed.specs.Rows.{HasNoClusters}
use Rattle.ntfs_volume.specs.Streams.{Gathered, IsReadable}

pub returns-in-None-clause-cells : goal.returns-in-None-clause-cells
returns-in-None-clause-cells c = λ plain. no-runs ∙ ap gathered_cells (sym c.in-None.is)

pub returns-in-None-clause-below : goal.returns-in-None-clause-below
returns-in-None-clause-below c = no-runs-below c.args.geometry.now.clusters

pub returns-in-Some-clause-cells : goal.returns-in-Some-clause-cells
returns-in-Some-clause-cells c = λ plain.
    c.runs_of.ensures.cells (subst (λ (o : Option (Gathered ℕ)). IfSome o (λ s. HasNoClusters s.stream)) c.in-Some.is plain) ∙ ap gathered_cells (sym c.in-Some.is)

pub returns-in-Some-clause-below : goal.returns-in-Some-clause-below
returns-in-Some-clause-below c =
    c.runs_of.ensures.below c.args.geometry.now.clusters (subst (λ (o : Option (Gathered ℕ)). IfSome o (λ s. IsReadable c.args.geometry.now s.stream)) c.in-Some.is c.requires).cells
