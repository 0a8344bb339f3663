use Rattle.std.proofs.Common.{arith, map}
use Rattle.ntfs_runs.proofs.CellsLemmas.{count-next}
use Rattle.ntfs_owners.specs.Sweep.{row_span}
use Rattle.ntfs_owners.proofs.SpanLemmas.{spans-last, spans-next}
use Rattle.ntfs_owners.proofs.cluster_rows.add_runs.Goals as goal

pub row_in-requires : goal.row_in-requires
row_in-requires c = omega (arith, count-next c.args.runs.now c.runs.run-index c.runs-test.true, c.runs.invariant.vcn, c.requires)

pub overflow_add-vcn : goal.overflow_add-vcn
overflow_add-vcn c = omega (arith, count-next c.args.runs.now c.runs.run-index c.runs-test.true, c.runs.invariant.vcn, c.requires)

pub runs-preserved : goal.runs-preserved
runs-preserved c = record {
  vcn = omega (arith, count-next c.args.runs.now c.runs.run-index c.runs-test.true, c.runs.invariant.vcn);
  same = spans-next c.args.from c.args.end c.args.text.now c.runs.vcn c.runs.run-index c.args.runs.now (map row_span c.runs.rows.items) (map row_span c.add_row.new.rows.items) _ _ c.runs-test.true
      c.row_in.ensures c.in_ok-add_row.ensures c.runs.invariant.same;
}

pub returns : goal.returns
returns c = spans-last c.args.from c.args.end c.args.text.now c.runs.vcn c.runs.run-index c.args.runs.now (map row_span c.runs.rows.items) _ c.runs-test.false c.runs.invariant.same
