use Rattle.std.proofs.Common.{arith}
use Rattle.ntfs_volume.proofs.ScanLemmas.{run-end}
use Rattle.ntfs_volume.proofs.scan.seek.Goals as goal

pub returns-then-from-end-clause-stands : goal.returns-then-from-end-clause-stands
returns-then-from-end-clause-stands c =
    let end = run-end c.args.runs.now c.args.cluster c.runs.at.index c.runs.at.begins c.from.result c.from-in-runs.result c.runs-test.true c.runs.invariant.cursor.begins c.from.ensures c.from-in-runs.ensures in
    record {
      run = c.runs.invariant.cursor;
      above = c.runs.invariant.above;
      below = omega (arith, end, c.if-from-end.true, c.from-in-runs-2.ensures, c.from-in-runs-3.ensures);
    }

pub runs-preserved : goal.runs-preserved
runs-preserved c =
    let end = run-end c.args.runs.now c.args.cluster c.runs.at.index c.runs.at.begins c.from.result c.from-in-runs.result c.runs-test.true c.runs.invariant.cursor.begins c.from.ensures c.from-in-runs.ensures in
    record {
      cursor = record {
        index = omega (arith, c.runs-test.true);
        begins = omega (arith, end, c.from-in-runs-2.ensures);
      };
      above = omega (arith, c.if-from-end.false, c.from-in-runs-3.ensures);
      further = omega (arith, c.runs.invariant.further);
    }
