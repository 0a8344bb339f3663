use Rattle.std.proofs.Common.{◌≡◌, ◌≤◌, ◌<◌, ◌+◌, ◌*◌, ◌-◌, ◌%◌, sym, ap, ◌∙◌, subst, ℕ, length, List, Option, Ok, arith, take, min, ◌++◌}
use Rattle.std.specs.Prelude.{replicate}
use Rattle.std.proofs.lemmas.List.{length-take, length-take-le}
use Rattle.ntfs_base.specs.Bytes.{cluster_at}
use Rattle.ntfs_boot.specs.Geometry.{bytes_of_clusters}
use Rattle.ntfs_runs.specs.Cells.{map_cells}
use Rattle.ntfs_runs.specs.Clusters.{row}
use Rattle.ntfs_stream.specs.Putting.{shown_cells}
use Rattle.ntfs_stream.proofs.RowLemmas.{clusters-small, multiple-within, row-held, shown-empty, shown-hole, shown-read}
use Rattle.ntfs_stream.proofs.StreamBytesLemmas.{clusters-long}
use Rattle.ntfs_stream.proofs.row.read_row.Goals.{in_default-via-in-Some+else-valid-gt0, in_default-via-in_default}
use Rattle.ntfs_stream.proofs.row.read_row.Goals as goal

pub overflow_mul-lcn : goal.overflow_mul-lcn
overflow_mul-lcn g c =
    let k = c.args.geometry.now in
    let inside = row-held k.clusters k.cluster (bytes_of_clusters k) c.args.part.now.length c.in-Some.lcn c.args.valid c.min-valid.result (length c.args.buffer.now) c.args.part.now.lcn c.in-Some.is c.requires.cells (omega arith) c.requires.buffer c.min-valid.ensures c.if-valid-gt0.true in
    let small = clusters-small k.clusters k.cluster (omega (arith, c.requires.opened.good.most_clusters)) c.requires.opened.good.most_cluster in
    let same : c.in-Some.lcn * c.from-cluster.result ≡ c.in-Some.lcn * k.cluster = ap (λ n. c.in-Some.lcn * n) c.from-cluster.ensures in
    omega (arith, inside, small, same)

-- what is read lies in the row
read-within : (valid v cluster c k len end : ℕ) → v ≡ min valid len → len ≡ k * c → cluster ≡ c → end % cluster ≡ 0 → end < v + cluster → 0 < c → end ≤ k * c
read-within valid v cluster c k len end least long same whole less some =
    multiple-within v c k end (omega (arith, least, long)) (ap (λ n. end % n) (sym same) ∙ whole) (omega (arith, less, same)) some

pub slice_bounds-read_at-end : goal.slice_bounds-read_at-end
slice_bounds-read_at-end g c =
    let k = c.args.geometry.now in
    let end = read-within c.args.valid c.min-valid.result c.from-cluster.result k.cluster c.args.part.now.length (length c.args.buffer.now) c.read_length-end.result
    c.min-valid.ensures c.requires.buffer c.from-cluster.ensures c.read_length-end.ensures.whole c.read_length-end.ensures.less (omega (arith, c.requires.opened.good.least_cluster)) in
    omega (arith, end, c.requires.buffer)

pub slice_bounds-read_at-end-in-Some : goal.slice_bounds-read_at-end-in-Some
slice_bounds-read_at-end-in-Some g c =
    let k = c.args.geometry.now in
    let end = read-within c.args.valid c.min-valid.result c.from-cluster.result k.cluster c.args.part.now.length (length c.args.buffer.now) c.read_length-end.result
    c.min-valid.ensures c.requires.buffer c.from-cluster.ensures c.read_length-end.ensures.whole c.read_length-end.ensures.less (omega (arith, c.requires.opened.good.least_cluster)) in
    sym (length-take-le c.read_length-end.result c.args.buffer.now (omega (arith, end, c.requires.buffer)))

pub read_at-requires : goal.read_at-requires
read_at-requires g c =
    let k = c.args.geometry.now in
    let inside = row-held k.clusters k.cluster (g.G.Image.seen c.args.image.now).size c.args.part.now.length c.in-Some.lcn c.args.valid c.min-valid.result (length c.args.buffer.now) c.args.part.now.lcn c.in-Some.is c.requires.cells c.requires.opened.held c.requires.buffer c.min-valid.ensures c.if-valid-gt0.true in
    let same : c.in-Some.lcn * c.from-cluster.result ≡ c.in-Some.lcn * k.cluster = ap (λ n. c.in-Some.lcn * n) c.from-cluster.ensures in
    let count = length-take c.read_length-end.result c.args.buffer.now in
    omega (arith, inside, same, count, c.requires.buffer)

pub returns-in_ok-read_at-in-Some-clause-gives : goal.returns-in_ok-read_at-in-Some-clause-gives
returns-in_ok-read_at-in-Some-clause-gives g c told =
    let k = c.args.geometry.now in
    let image = g.G.Image.seen c.args.image.now in
    let long : length image.content ≡ image.size = g.met.G.Image.told_size c.args.image.now told in
    let inside = row-held k.clusters k.cluster (length image.content) c.args.part.now.length c.in-Some.lcn c.args.valid c.min-valid.result (length c.args.buffer.now) c.args.part.now.lcn c.in-Some.is c.requires.cells (subst (λ (n : ℕ). bytes_of_clusters k ≤ n) (sym long) c.requires.opened.held) c.requires.buffer c.min-valid.ensures c.if-valid-gt0.true in
    let end = read-within c.args.valid c.min-valid.result c.from-cluster.result k.cluster c.args.part.now.length (length c.args.buffer.now) c.read_length-end.result
    c.min-valid.ensures c.requires.buffer c.from-cluster.ensures c.read_length-end.ensures.whole c.read_length-end.ensures.less (omega (arith, c.requires.opened.good.least_cluster)) in
    ap Ok (subst (λ (o : Option ℕ). shown_cells k.cluster c.args.valid (map_cells (cluster_at image.content k.cluster) (row c.args.part.now.length o)) ≡ c.clear.new.buffer) (sym c.in-Some.is)
    (sym (shown-read image.content c.args.buffer.now c.read_at.new.into c.clear.new.buffer k.cluster c.args.part.now.length c.in-Some.lcn c.args.valid c.min-valid.result (c.in-Some.lcn * c.from-cluster.result)
    c.read_length-end.result inside c.requires.buffer c.min-valid.ensures (ap (λ n. c.in-Some.lcn * n) c.from-cluster.ensures) c.read_length-end.ensures.enough end c.read_at.auto.into
    (c.in_ok-read_at-in-Some.ensures.bytes told) c.clear.ensures)))

-- zeros from the first byte on
cleared : (buffer after : List ℕ) (m : ℕ) → length buffer ≡ m → after ≡ take 0 buffer ++ replicate (length buffer - 0) 0 → replicate m 0 ≡ after
cleared buffer after m long is = let all : length buffer - 0 ≡ m = omega (arith, long) in ap (λ n. replicate n 0) (sym all) ∙ sym is

pub returns-in_default-clause-gives : goal.returns-in_default-clause-gives
returns-in_default-clause-gives g c told =
    let k = c.args.geometry.now in
    let image = g.G.Image.seen c.args.image.now in
    let f = cluster_at image.content k.cluster in
    let long : length image.content ≡ image.size = g.met.G.Image.told_size c.args.image.now told in
    let held = subst (λ (n : ℕ). bytes_of_clusters k ≤ n) (sym long) c.requires.opened.held in
    let zeros = cleared c.args.buffer.now c.clear-in_default.new.buffer (c.args.part.now.length * k.cluster) c.requires.buffer c.clear-in_default.ensures in
    ap Ok (elim c.in_default.branch [
      | in_default-via-in-Some+else-valid-gt0 w ↦ shown-empty f k.cluster k.clusters c.args.valid c.args.part.now.length c.args.part.now.lcn (clusters-long image.content k.cluster k.clusters held) c.requires.cells
          (omega (arith, w.if-valid-gt0.false, c.min-valid.ensures, c.requires.buffer)) ∙ zeros
      | in_default-via-in_default w ↦ subst (λ (o : Option ℕ). shown_cells k.cluster c.args.valid (map_cells f (row c.args.part.now.length o)) ≡ c.clear-in_default.new.buffer) (sym w.in_default.is)
          (shown-hole f k.cluster c.args.valid c.args.part.now.length ∙ zeros)
    ])
