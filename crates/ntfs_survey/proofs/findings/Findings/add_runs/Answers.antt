use Rattle.std.proofs.Common.{arith}
use Rattle.ntfs_runs.proofs.CellsLemmas.{count-next}
use Rattle.ntfs_survey.proofs.FoundLemmas.{owners-last, owners-next}
use Rattle.ntfs_survey.proofs.findings.Findings.add_runs.Goals as goal

pub overflow_add-vcn : goal.overflow_add-vcn
overflow_add-vcn c = omega (arith, count-next c.args.runs.now c.runs.run-index c.runs-test.true, c.runs.invariant.vcn, c.requires)

pub runs-preserved : goal.runs-preserved
runs-preserved c = record {
  vcn = omega (arith, count-next c.args.runs.now c.runs.run-index c.runs-test.true, c.runs.invariant.vcn);
  owners = owners-next c.args.holder.number c.args.holder.place c.runs.vcn c.runs.run-index c.args.runs.now c.runs.self c.add_run.new.self _ c.runs-test.true c.runs.invariant.owners c.in_ok-add_run.ensures;
}

pub returns : goal.returns
returns c = owners-last c.args.holder.number c.args.holder.place c.runs.vcn c.runs.run-index c.args.runs.now c.runs.self _ c.runs-test.false c.runs.invariant.owners
