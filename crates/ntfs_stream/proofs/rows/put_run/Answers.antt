use Rattle.std.proofs.Common.{◌≡◌, ◌*◌, ◌-◌, sym, ap, ◌∙◌, refl, arith, subst, ℕ, length, Option, true, Ok, Err}
use Rattle.std.proofs.lemmas.List.{length-take-le}
use Rattle.std.proofs.lemmas.Result.{err_from_is_err_and}
use Rattle.ntfs_base.specs.Bytes.{cluster_at}
use Rattle.ntfs_base.specs.Frames.{Puts}
use Rattle.ntfs_base.proofs.FramesLemmas.{told_still}
use Rattle.ntfs_runs.specs.Cells.{are_cells, map_cells}
use Rattle.ntfs_runs.specs.Clusters.{row}
use Rattle.ntfs_stream.specs.Fault.{stream_origin}
use Rattle.ntfs_stream.specs.Putting.{pieces}
use Rattle.ntfs_stream.proofs.AnswerLemmas.{never-puts}
use Rattle.ntfs_stream.proofs.PutLemmas.{count-step, left-start, pieces-none, puts-end, rows-cut, rows-step, run-end}
use Rattle.ntfs_stream.proofs.RowLemmas.{row-end, row-first, row-rest, row-room, row-some, row-within}
use Rattle.ntfs_stream.proofs.rows.put_run.Goals as goal

pub rows-init : goal.rows-init
rows-init g c = record {
  count = omega arith;
  size = let none : c.args.run.now.length - c.args.run.now.length ≡ 0 = omega arith in omega (arith, ap (λ n. n * c.args.geometry.now.cluster) none);
  valid = let none : c.args.run.now.length - c.args.run.now.length ≡ 0 = omega arith in omega (arith, ap (λ n. n * c.args.geometry.now.cluster) none);
  cells = c.requires.cells;
  seen = refl;
  counts = record { reads = omega arith; writes = omega arith };
  puts = record { failures = omega arith; wants = omega arith };
  put = λ told. left-start _ _;
}

-- the bytes of a row lie in the buffer
pub overflow_mul-bytes : goal.overflow_mul-bytes
overflow_mul-bytes g c =
    let fits = row-room c.from-cluster.result c.rows.rest.size (length c.rows.buffer) c.rows.left.length c.first_row-part.result.length c.first_row-part.ensures.length in
    omega (arith, fits)

pub slice_bounds-put_row-end : goal.slice_bounds-put_row-end
slice_bounds-put_row-end g c = row-room c.from-cluster.result c.rows.rest.size (length c.rows.buffer) c.rows.left.length c.first_row-part.result.length c.first_row-part.ensures.length

pub slice_bounds-put_row-end-in-rows : goal.slice_bounds-put_row-end-in-rows
slice_bounds-put_row-end-in-rows g c =
    sym (length-take-le (c.first_row-part.result.length * c.from-cluster.result) c.rows.buffer
    (row-room c.from-cluster.result c.rows.rest.size (length c.rows.buffer) c.rows.left.length c.first_row-part.result.length c.first_row-part.ensures.length))

pub put_row-requires-clause-cells : goal.put_row-requires-clause-cells
put_row-requires-clause-cells g c =
    let k = c.first_row-part.result.length in
    let within = row-within c.from-cluster.result c.rows.rest.size (length c.rows.buffer) c.rows.left.length k c.first_row-part.ensures.length in
    subst (λ (o : Option ℕ). are_cells true c.args.geometry.now.clusters (row k o) ≡ true) (sym c.first_row-part.ensures.lcn)
    (row-first c.args.geometry.now.clusters c.rows.left.length k c.rows.left.lcn within c.rows.invariant.cells)

pub put_row-requires-clause-buffer : goal.put_row-requires-clause-buffer
put_row-requires-clause-buffer g c =
    let k = c.first_row-part.result.length in
    length-take-le (k * c.from-cluster.result) c.rows.buffer (row-room c.from-cluster.result c.rows.rest.size (length c.rows.buffer) c.rows.left.length k c.first_row-part.ensures.length)
    ∙ ap (λ n. k * n) c.from-cluster.ensures

pub returns-in_err-put_row-clause-told : goal.returns-in_err-put_row-clause-told
returns-in_err-put_row-clause-told g c told =
    let size = c.args.geometry.now.cluster in
    let part = c.first_row-part.result in
    let p = err_from_is_err_and c.from_residual.result c.from_residual.ensures.1 in
    let within = row-within c.from-cluster.result c.rows.rest.size (length c.rows.buffer) c.rows.left.length part.length c.first_row-part.ensures.length in
    let puts = told_still g.G.Image _ _ (λ content. Puts stream_origin (Ok (pieces size c.rows.rest.size c.rows.rest.valid (map_cells (cluster_at content size) (row part.length part.lcn)))) (g.K.Sink.seen c.rows.sink) (Err c.in_err-put_row.field-0.0) (g.K.Sink.seen c.put_row.new.sink))
    c.rows.invariant.seen c.in_err-put_row.ensures.told in
    rw (p.1, p.2) (rows-cut stream_origin _ (cluster_at (g.G.Image.seen c.args.image.now).content size) size c.rows.left part c.rows.rest _ _ _ _ (never-puts stream_origin _ _ _ _ (puts told)) within c.first_row-part.ensures.lcn (c.rows.invariant.put told) (puts told).prefix)

pub behind_row-left-requires-clause-length : goal.behind_row-left-requires-clause-length
behind_row-left-requires-clause-length g c = row-within c.from-cluster.result c.rows.rest.size (length c.rows.buffer) c.rows.left.length c.first_row-part.result.length c.first_row-part.ensures.length

pub behind_row-left-requires-clause-lcn : goal.behind_row-left-requires-clause-lcn
behind_row-left-requires-clause-lcn g c =
    let k = c.args.geometry.now in
    let within = row-within c.from-cluster.result c.rows.rest.size (length c.rows.buffer) c.rows.left.length c.first_row-part.result.length c.first_row-part.ensures.length in
    row-end k.clusters c.rows.left.length c.first_row-part.result.length c.rows.left.lcn c.rows.invariant.cells c.rows-test.true within (omega (arith, c.requires.opened.good.most_clusters))

pub rows-smaller : goal.rows-smaller
rows-smaller g c =
    let size = c.from-cluster.result in
    let k = c.first_row-part.result.length in
    let some = row-some size c.rows.rest.size (length c.rows.buffer) c.rows.left.length k c.first_row-part.ensures.length c.rows-test.true c.if-rest-gt0.true
    (omega (arith, c.requires.buffer, c.rows.auto.buffer, c.from-cluster.ensures)) (omega (arith, c.from-cluster.ensures, c.requires.opened.good.least_cluster)) in
    omega (arith, some, c.behind_row-left.ensures.length, c.rows-test.true)

pub rows-preserved : goal.rows-preserved
rows-preserved g c =
    let size = c.args.geometry.now.cluster in
    let left = c.rows.left in
    let part = c.first_row-part.result in
    let next = c.behind_row-left.result in
    let within = row-within c.from-cluster.result c.rows.rest.size (length c.rows.buffer) left.length part.length c.first_row-part.ensures.length in
    let bytes : part.length * c.from-cluster.result ≡ part.length * size = ap (λ n. part.length * n) c.from-cluster.ensures in
    let count = c.behind_row-left.ensures.length in
    let puts = told_still g.G.Image _ _ (λ content. Puts stream_origin (Ok (pieces size c.rows.rest.size c.rows.rest.valid (map_cells (cluster_at content size) (row part.length part.lcn)))) (g.K.Sink.seen c.rows.sink) (Ok tt) (g.K.Sink.seen c.put_row.new.sink))
    c.rows.invariant.seen c.in_ok-put_row.ensures.told in
    record {
      count = omega (arith, count, c.rows.invariant.count);
      size = c.advance.ensures.size ∙ count-step c.args.rest.now.size c.rows.rest.size size c.args.run.now.length left.length part.length (part.length * c.from-cluster.result) within c.rows.invariant.count bytes c.rows.invariant.size
          ∙ ap (λ n. c.args.rest.now.size - (c.args.run.now.length - n) * size) (sym count);
      valid = c.advance.ensures.valid ∙ count-step c.args.rest.now.valid c.rows.rest.valid size c.args.run.now.length left.length part.length (part.length * c.from-cluster.result) within c.rows.invariant.count bytes c.rows.invariant.valid
          ∙ ap (λ n. c.args.rest.now.valid - (c.args.run.now.length - n) * size) (sym count);
      cells = rw (count, c.behind_row-left.ensures.lcn) (row-rest c.args.geometry.now.clusters left.length part.length left.lcn within c.rows.invariant.cells);
      seen = c.in_ok-put_row.ensures.copies.seen ∙ c.rows.invariant.seen;
      counts = record { reads = omega (arith, c.in_ok-put_row.ensures.copies.counts.reads, c.rows.invariant.counts.reads); writes = omega (arith, c.in_ok-put_row.ensures.copies.counts.writes, c.rows.invariant.counts.writes) };
      puts = record { failures = omega (arith, c.in_ok-put_row.ensures.copies.puts.failures, c.rows.invariant.puts.failures); wants = omega (arith, c.in_ok-put_row.ensures.copies.puts.wants, c.rows.invariant.puts.wants) };
      put = λ told. rows-step _ (cluster_at (g.G.Image.seen c.args.image.now).content size) size left part next c.rows.rest c.advance.new.self _ _ _ within c.first_row-part.ensures.lcn count c.behind_row-left.ensures.lcn
          (record { size = c.advance.ensures.size ∙ ap (λ n. c.rows.rest.size - n) bytes; valid = c.advance.ensures.valid ∙ ap (λ n. c.rows.rest.valid - n) bytes }) (c.rows.invariant.put told) ((puts told).output tt);
    }

pub returns-else-rest-gt0-clause-told : goal.returns-else-rest-gt0-clause-told
returns-else-rest-gt0-clause-told g c told =
    let k = c.args.geometry.now in
    let f = cluster_at (g.G.Image.seen c.args.image.now).content k.cluster in
    let none : c.rows.rest.size ≡ 0 = omega arith in
    puts-end stream_origin _ _ _ _ (c.rows.invariant.put told)
    (ap (λ s. pieces k.cluster s c.rows.rest.valid (map_cells f (row c.rows.left.length c.rows.left.lcn))) none ∙ pieces-none k.cluster c.rows.rest.valid (map_cells f (row c.rows.left.length c.rows.left.lcn)))

pub returns-after-rows-clause-told : goal.returns-after-rows-clause-told
returns-after-rows-clause-told g c told =
    let k = c.args.geometry.now in
    let f = cluster_at (g.G.Image.seen c.args.image.now).content k.cluster in
    let none : c.rows.left.length ≡ 0 = omega arith in
    puts-end stream_origin _ _ _ _ (c.rows.invariant.put told)
    (ap (λ n. pieces k.cluster c.rows.rest.size c.rows.rest.valid (map_cells f (row n c.rows.left.lcn))) none ∙ run-end f k.cluster c.rows.rest.size c.rows.rest.valid c.rows.left.lcn)
