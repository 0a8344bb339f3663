use Rattle.std.proofs.Common.{◌+◌, sym, ◌∙◌, refl, arith, Ok, Err, true, drop, get_or}
use Rattle.std.proofs.lemmas.Result.{err_from_is_err_and}
use Rattle.ntfs_base.specs.Bytes.{cluster_at}
use Rattle.ntfs_base.specs.Frames.{Puts}
use Rattle.ntfs_base.proofs.FramesLemmas.{told_still}
use Rattle.ntfs_runs.specs.Clusters.{row, vcns}
use Rattle.ntfs_runs.proofs.CellsLemmas.{no_run}
use Rattle.ntfs_stream.specs.Fault.{stream_origin}
use Rattle.ntfs_runs.specs.Cells.{are_cells, map_cells}
use Rattle.ntfs_stream.specs.Putting.{pieces}
use Rattle.ntfs_stream.proofs.AnswerLemmas.{never-puts}
use Rattle.ntfs_runs.proofs.CellsLemmas.{are_cells-next}
use Rattle.ntfs_stream.proofs.PutLemmas.{left-start, puts-end, runs-cut, runs-end, runs-step}
use Rattle.ntfs_stream.proofs.BoolLemmas.{and-left, and-right}
use Rattle.ntfs_stream.proofs.rows.put_runs.Goals as goal

pub runs-init : goal.runs-init
runs-init g c = record {
  valid = c.requires.rest;
  cells = c.requires.cells;
  seen = refl;
  counts = record { reads = omega arith; writes = omega arith };
  puts = record { failures = omega arith; wants = omega arith };
  put = λ told. left-start _ _;
}

pub put_run-requires-clause-cells : goal.put_run-requires-clause-cells
put_run-requires-clause-cells g c =
    let run = get_or c.args.runs.now c.runs.run-index no_run in
    and-left (are_cells true c.args.geometry.now.clusters (row run.length run.lcn)) (are_cells true c.args.geometry.now.clusters (vcns (drop (c.runs.run-index + 1) c.args.runs.now)))
    (sym (are_cells-next true c.args.geometry.now.clusters c.args.runs.now c.runs.run-index c.runs-test.true) ∙ c.runs.invariant.cells)

pub returns-in_err-put_run-clause-told : goal.returns-in_err-put_run-clause-told
returns-in_err-put_run-clause-told g c told =
    let run = get_or c.args.runs.now c.runs.run-index no_run in
    let size = c.args.geometry.now.cluster in
    let p = err_from_is_err_and c.from_residual.result c.from_residual.ensures.1 in
    let puts = told_still g.G.Image _ _ (λ content. Puts stream_origin (Ok (pieces size c.runs.rest.size c.runs.rest.valid (map_cells (cluster_at content size) (row run.length run.lcn)))) (g.K.Sink.seen c.runs.sink) (Err c.in_err-put_run.field-0.0) (g.K.Sink.seen c.put_run.new.sink))
    c.runs.invariant.seen c.in_err-put_run.ensures.told in
    rw (p.1, p.2) (runs-cut stream_origin _ (cluster_at (g.G.Image.seen c.args.image.now).content size) size c.runs.run-index c.args.runs.now c.runs.rest _ _ _ _ (never-puts stream_origin _ _ _ _ (puts told)) c.runs-test.true (c.runs.invariant.put told) (puts told).prefix)

pub runs-preserved : goal.runs-preserved
runs-preserved g c =
    let run = get_or c.args.runs.now c.runs.run-index no_run in
    let size = c.args.geometry.now.cluster in
    let puts = told_still g.G.Image _ _ (λ content. Puts stream_origin (Ok (pieces size c.runs.rest.size c.runs.rest.valid (map_cells (cluster_at content size) (row run.length run.lcn)))) (g.K.Sink.seen c.runs.sink) (Ok tt) (g.K.Sink.seen c.put_run.new.sink))
    c.runs.invariant.seen c.in_ok-put_run.ensures.told in
    record {
      valid = omega (arith, c.in_ok-put_run.ensures.rest.size, c.in_ok-put_run.ensures.rest.valid, c.runs.invariant.valid);
      cells = and-right (are_cells true c.args.geometry.now.clusters (row run.length run.lcn)) (are_cells true c.args.geometry.now.clusters (vcns (drop (c.runs.run-index + 1) c.args.runs.now)))
          (sym (are_cells-next true c.args.geometry.now.clusters c.args.runs.now c.runs.run-index c.runs-test.true) ∙ c.runs.invariant.cells);
      seen = c.in_ok-put_run.ensures.copies.seen ∙ c.runs.invariant.seen;
      counts = record { reads = omega (arith, c.in_ok-put_run.ensures.copies.counts.reads, c.runs.invariant.counts.reads); writes = omega (arith, c.in_ok-put_run.ensures.copies.counts.writes, c.runs.invariant.counts.writes) };
      puts = record { failures = omega (arith, c.in_ok-put_run.ensures.copies.puts.failures, c.runs.invariant.puts.failures); wants = omega (arith, c.in_ok-put_run.ensures.copies.puts.wants, c.runs.invariant.puts.wants) };
      put = λ told. runs-step _ (cluster_at (g.G.Image.seen c.args.image.now).content size) size c.runs.run-index c.args.runs.now c.runs.rest c.put_run.new.rest _ _ _ c.runs-test.true (c.runs.invariant.put told) c.in_ok-put_run.ensures.rest ((puts told).output tt);
    }

pub returns-clause-told : goal.returns-clause-told
returns-clause-told g c told =
    puts-end stream_origin _ _ _ _ (c.runs.invariant.put told) (runs-end (cluster_at (g.G.Image.seen c.args.image.now).content c.args.geometry.now.cluster) c.args.geometry.now.cluster c.runs.rest.size c.runs.rest.valid c.runs.run-index c.args.runs.now c.runs-test.false)
