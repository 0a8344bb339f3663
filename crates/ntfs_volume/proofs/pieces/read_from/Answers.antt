use Rattle.std.proofs.Common.{◌≡◌, ◌≤◌, ◌+◌, ◌-◌, ◌*◌, ◌++◌, ℕ, List, refl, sym, ap, subst, ◌∙◌, arith, length, take, drop, get_or, Ok, Result}
use borrow.Rule.Slice.PartMut.{put_mid}
use Rattle.ntfs_base.specs.Bytes.{cluster_at}
use Rattle.ntfs_base.proofs.FramesLemmas.{told_still}
use Rattle.ntfs_boot.specs.Geometry.{bytes_of_clusters}
use Rattle.ntfs_runs.specs.Cells.{map_cells}
use Rattle.ntfs_runs.specs.Clusters.{row, vcns}
use Rattle.ntfs_runs.proofs.CellsLemmas.{count-next, vcns-all}
use Rattle.ntfs_volume.specs.StreamBytes.{cells_bytes}
use Rattle.ntfs_volume.specs.declared.fault.VolumeFault.{VolumeFault}
use Rattle.ntfs_volume.proofs.AnswerLemmas.{given}
use Rattle.ntfs_volume.proofs.PieceLemmas.{all-read, cells-first, cells-rest, clusters-long, length-part, length-put, no_run, reach-more, run-more, within-more}
use Rattle.ntfs_volume.proofs.pieces.read_from.Goals as goal

pub overflow_sub-block : goal.overflow_sub-block
overflow_sub-block g c = c.runs.invariant.done

pub read_run-requires-clause-cells : goal.read_run-requires-clause-cells
read_run-requires-clause-cells g c = cells-first c.args.geometry.now.clusters c.args.runs.now c.runs.run-index c.runs-test.true c.runs.invariant.cells

pub read_run-requires-clause-within : goal.read_run-requires-clause-within
read_run-requires-clause-within g c some =
    let run = get_or c.args.runs.now c.runs.run-index no_run in
    let done = c.runs.done in
    let count = c.count_in-count.result in
    let within : done + count ≤ length c.runs.block = omega (arith, c.count_in-count.ensures, c.runs.invariant.done) in
    let part = length-part c.runs.block done count within in
    let size : c.from.result * c.from-in-runs.result ≡ run.length * c.args.geometry.now.cluster = ap (λ n. n * c.from-in-runs.result) c.from.ensures ∙ ap (λ n. run.length * n) c.from-in-runs.ensures in
    let fits = within-more (c.from.result * c.from-in-runs.result) c.runs.skip (length c.runs.block) done count c.count_in-count.ensures (omega (arith, part, some)) in
    omega (arith, part, fits, size)

pub runs-preserved : goal.runs-preserved
runs-preserved g c =
    let k = c.args.geometry.now in
    let run = get_or c.args.runs.now c.runs.run-index no_run in
    let done = c.runs.done in
    let count = c.count_in-count.result in
    let image = g.G.Image.seen c.args.image.now in
    let all = length c.runs.block in
    let within : done + count ≤ all = omega (arith, c.count_in-count.ensures, c.runs.invariant.done) in
    let part = length-part c.runs.block done count within in
    let size = c.read_run.auto.into ∙ part in
    let put = length-put c.runs.block c.read_run.new.into done count within size in
    let bytes : c.from.result * c.from-in-runs.result ≡ run.length * k.cluster = ap (λ n. n * c.from-in-runs.result) c.from.ensures ∙ ap (λ n. run.length * n) c.from-in-runs.ensures in
    let behind = c.skip_behind-skip.ensures in
    let counted = count-next c.args.runs.now c.runs.run-index c.runs-test.true in
    let reach = subst (λ (n : ℕ). c.runs.skip + (all - done) ≤ n * k.cluster) counted c.runs.invariant.reach in
    let next = reach-more run.length (length (vcns (drop (c.runs.run-index + 1) c.args.runs.now))) k.cluster (c.from.result * c.from-in-runs.result) c.runs.skip done all count bytes reach c.count_in-count.ensures in
    let row_bytes = λ (content : List ℕ). cells_bytes k.cluster (map_cells (cluster_at content k.cluster) (row run.length run.lcn)) in
    let read = told_still g.G.Image _ _ (λ content. ◌≡◌ {A = Result (List ℕ) VolumeFault} (Ok (take (length (take (done + count - done) (drop done c.runs.block))) (drop c.runs.skip (row_bytes content)))) (Ok c.read_run.new.into)) c.runs.invariant.seen c.in_ok-read_run.ensures.gives in
    record {
      done = omega (arith, put, within);
      long = put ∙ c.runs.invariant.long;
      seen = c.in_ok-read_run.ensures.reads.seen ∙ c.runs.invariant.seen;
      counts = record { reads = omega (arith, c.in_ok-read_run.ensures.reads.counts.reads, c.runs.invariant.counts.reads); writes = omega (arith, c.in_ok-read_run.ensures.reads.counts.writes, c.runs.invariant.counts.writes) };
      cells = cells-rest k.clusters c.args.runs.now c.runs.run-index c.runs-test.true c.runs.invariant.cells;
      reach = omega (arith, next, behind, put);
      bytes = λ told.
          let f = cluster_at image.content k.cluster in
          let long : length image.content ≡ image.size = g.met.G.Image.told_size c.args.image.now told in
          let held = subst (λ (n : ℕ). bytes_of_clusters k ≤ n) (sym long) c.requires.opened.held in
          let rest = cells_bytes k.cluster (map_cells f (vcns (drop (c.runs.run-index + 1) c.args.runs.now))) in
          let target = drop c.args.from (cells_bytes k.cluster (map_cells f (vcns c.args.runs.now))) in
          ap (λ n. take (done + count) (put_mid done (done + count - done) c.runs.block c.read_run.new.into) ++ take (n - (done + count)) (drop c.skip_behind-skip.result rest)) put
          ∙ ap (λ n. take (done + count) (put_mid done (done + count - done) c.runs.block c.read_run.new.into) ++ take (all - (done + count)) (drop n rest)) behind
          ∙ run-more f k.cluster k.clusters c.args.runs.now c.runs.run-index c.runs.skip done all count (c.from.result * c.from-in-runs.result) c.runs.block c.read_run.new.into (take all target)
          (clusters-long image.content k.cluster k.clusters held) c.runs-test.true c.runs.invariant.cells within size bytes c.count_in-count.ensures (c.runs.invariant.bytes told)
          (given _ _ (read told) ∙ ap (λ n. take n (drop c.runs.skip (row_bytes image.content))) part)
          ∙ ap (λ n. take n target) (sym put);
    }

pub returns-clause-gives : goal.returns-clause-gives
returns-clause-gives g c told =
    let k = c.args.geometry.now in
    let f = cluster_at (g.G.Image.seen c.args.image.now).content k.cluster in
    let target = drop c.args.from (cells_bytes k.cluster (map_cells f (vcns c.args.runs.now))) in
    let none = vcns-all c.args.runs.now c.runs.run-index c.runs-test.false in
    let reach = subst (λ (cells : List _). c.runs.skip + (length c.runs.block - c.runs.done) ≤ length cells * k.cluster) none c.runs.invariant.reach in
    let bytes = subst (λ (cells : List _). take c.runs.done c.runs.block ++ take (length c.runs.block - c.runs.done) (drop c.runs.skip (cells_bytes k.cluster (map_cells f cells))) ≡ take (length c.runs.block) target) none (c.runs.invariant.bytes told) in
    ap Ok (ap (λ n. take n target) (sym c.runs.invariant.long) ∙ all-read c.runs.block (take (length c.runs.block) target) c.runs.done (length c.runs.block) c.runs.skip k.cluster refl c.runs.invariant.done reach bytes)
